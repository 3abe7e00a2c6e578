-- A task that may not queue itself.
use Rattle.rt_core.proofs.Prelude.{inl, inr, ℕ, Err, Error, Ready, Wake, Refused, Plainly, Does, World, IsRefused, Walked, walked-wake, walked-gives, walked-lacking, Reschedule, reschedule_heard}

pub walked-refused : {A O G : Type 0} (old new : World A O G) (r : Reschedule) (task : ℕ) (error : Error) → IsRefused old new (Plainly (Wake task)) error → Walked (Does (Plainly (Wake task)) (reschedule_heard r)) old new (Ready (Err error)) r
walked-refused old new r task error (inl lack) = walked-lacking old new _ _ _ lack.1 tt
walked-refused old new r task error (inr made) = walked-wake old new new _ _ task (Refused error) _ made (walked-gives new _ _)
