use Rattle.std.proofs.Common.{◌∷◌, []}
use Rattle.rt_audit.proofs.auditor.Auditor.begun.Goals as goal

pub returns : goal.returns
returns c = c.update.ensures.fields (c.args.self.now ∷ c.args.label.now ∷ []) c.labelled-hasher.ensures
