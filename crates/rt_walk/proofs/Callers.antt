-- Who makes calls in a cleanup.
use Rattle.rt_walk.proofs.Prelude.{ℕ, Option, Some, None, refl, IsEndedNext}

-- only who is ended next does
pub ended-next-self : (root next by : Option ℕ) → IsEndedNext root next by → IsEndedNext root next next
ended-next-self root None by h = (h.0, refl)
ended-next-self root (Some task) by h = refl

pub ruleset caller_laws = (ended-next-self)
