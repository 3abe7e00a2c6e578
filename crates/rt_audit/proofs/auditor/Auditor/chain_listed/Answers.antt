use Rattle.std.proofs.Common.{◌≡◌, ◌∷◌, [], rules}
use Rattle.rt_audit.proofs.auditor.Auditor.chain_listed.Goals as goal

pub returns-in-Some : goal.returns-in-Some
returns-in-Some c =
    let first = c.as_slice.result.now in
    let fields_are : c.args.fields.now ≡ first ∷ c.in-Some.rest.now = search rules in
    let e = c.digest_with-self-inside.ensures (c.args.self.now ∷ c.args.label.now ∷ first ∷ []) c.begun.ensures in
    cc
