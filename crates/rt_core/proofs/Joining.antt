-- A poll of a task's result.
use Rattle.rt_core.proofs.Prelude.{inl, inr, refl, ℕ, Option, Some, None, Result, Ok, Err, IfOk, IfErr, Error, Join, Refused, Plainly, Plain, Handed, Does, World, IsRefused, Joined, Walked, walked-join, walked-gives, walked-lacking, Kind, heard_result, polled}
use Rattle.rt_audit.specs.declared.reply.CallReply.TheVariants.{Pending, Ready}

pub walked-joined : {A O P G : Type 0} (old new : World A O G) (h : Kind O P) (task : ℕ) (result : Result (Option O) Error) → IfOk result (λ value. Joined old new task value) → IfErr result (λ e. IsRefused old new (Plainly (Join task)) e) → Walked (Does (Plainly (Join task)) (heard_result h)) old new (polled result) h
walked-joined old new h task (Ok None) made refused = walked-join old new new _ _ task Pending (Plain Pending) _ made refl (walked-gives new _ _)
walked-joined old new h task (Ok (Some value)) made refused = walked-join old new new _ _ task Ready (Handed value) _ made.1 (rw made.0 refl) (walked-gives new _ _)
walked-joined old new h task (Err error) made (inl lack) = walked-lacking old new _ _ _ lack.1 tt
walked-joined old new h task (Err error) made (inr refused) = walked-join old new new _ _ task (Refused error) (Plain (Refused error)) _ refused refl (walked-gives new _ _)
