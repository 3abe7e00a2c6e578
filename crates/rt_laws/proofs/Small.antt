-- What a lawful journal from the small beginning tells of its entries.
use Rattle.rt_laws.proofs.Prelude.{List, [], ◌∷◌, ◌++◌, Some, CallOf, CallReply, Entry, begun, after_all, Answers, IsLawful, small_begin}
use Rattle.rt_audit.specs.declared.entry.Entry.TheVariants.{Call}
use Rattle.rt_laws.proofs.Clock.{lawful-tail}

-- what comes behind a front may come there
pub tail : (x y : List Entry) → IsLawful (begun small_begin) (x ++ y) → IsLawful (after_all (begun small_begin) x) y
tail x y l = lawful-tail (begun small_begin) x y l

-- what is replied to the root behind a front
pub told : (x : List Entry) (call : CallOf) (reply : CallReply) → IsLawful (begun small_begin) (x ++ Call (Some 0) call reply ∷ []) → Answers (after_all (begun small_begin) x) call reply
told x call reply l = (tail x (Call (Some 0) call reply ∷ []) l).0.1.1
