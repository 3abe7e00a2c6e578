use Rattle.std.proofs.Common.{◌≡◌, ◌∷◌, [], rules}
use Rattle.rt_audit.proofs.auditor.Auditor.chain.Goals as goal

pub returns-in-OfTask : goal.returns-in-OfTask
returns-in-OfTask c =
    let digest = c.args.self.now in
    let label = c.args.label.now in
    let number = c.as_slice.result.now in
    let told = c.as_bytes.result.now in
    let fields_are : c.args.fields.now ≡ number ∷ told ∷ [] = search rules in
    let e = c.finalize-self-inside.ensures.digest (digest ∷ label ∷ number ∷ told ∷ []) (c.update.ensures.fields (digest ∷ label ∷ number ∷ []) c.begun-hasher.ensures) in
    cc

pub returns-in-OfTaskInPlace : goal.returns-in-OfTaskInPlace
returns-in-OfTaskInPlace c =
    let digest = c.args.self.now in
    let label = c.args.label.now in
    let number = c.as_slice-in-OfTaskInPlace.result.now in
    let told = c.as_bytes-in-OfTaskInPlace.result.now in
    let fields_are : c.args.fields.now ≡ number ∷ told ∷ [] = search rules in
    let e = c.finalize-self-inside-in-OfTaskInPlace.ensures.digest (digest ∷ label ∷ number ∷ told ∷ []) (c.update-in-OfTaskInPlace.ensures.fields (digest ∷ label ∷ number ∷ []) c.begun-hasher-in-OfTaskInPlace.ensures) in
    cc
