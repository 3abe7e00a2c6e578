use Rattle.std.proofs.Common.{◌∷◌, []}
use Rattle.rt_audit.proofs.auditor.Auditor.labelled.Goals as goal

pub returns : goal.returns
returns c =
    let e = c.update-2.ensures.fields (c.self.inside.digest ∷ []) (c.update.ensures.fields [] c.new-hasher.ensures) in
    cc
