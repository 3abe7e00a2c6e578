-- A signal or a completion that is polled.
use Rattle.rt_core.proofs.Prelude.{◌≡◌, inl, inr, ℕ, ℤ, refl, Result, Ok, Err, IfOk, IfErr, Error, Poll, Ready, Pending, SignalPoll, CompletionPoll, Done, StillPending, Refused, met_reply, shown_reply, Plainly, Plain, Does, World, IsRefused, Made, Walked, walked-gives, walked-lacking, walked-made, met_heard, shown_heard}
use Rattle.rt_audit.specs.declared.reply.CallReply.TheVariants.{Value}
use Rattle.rt_core.specs.Signals.{polled}

module _ {A L O G : Type 0} (old new : World A O G) (state : L) where
  pub walked-shown : (signal : ℕ) (result : Result (Poll ℤ) Error) → IfOk result (λ shown. Made old new (Plainly (SignalPoll signal)) (shown_reply shown)) → IfErr result (λ e. IsRefused old new (Plainly (SignalPoll signal)) e) → Walked (Does (Plainly (SignalPoll signal)) (shown_heard state)) old new (polled result) state
  walked-shown signal (Ok (Ready value)) made refused = walked-made old new new _ _ (Plainly (SignalPoll signal)) (Value value) (Plain (Value value)) _ made (refl, tt) refl (walked-gives new _ _)
  walked-shown signal (Ok Pending) made refused = walked-made old new new _ _ (Plainly (SignalPoll signal)) StillPending (Plain StillPending) _ made (refl, tt) refl (walked-gives new _ _)
  walked-shown signal (Err error) made (inl lack) = walked-lacking old new _ _ _ lack.1 tt
  walked-shown signal (Err error) made (inr is) = walked-made old new new _ _ (Plainly (SignalPoll signal)) (Refused error) (Plain (Refused error)) _ is (refl, tt) refl (walked-gives new _ _)

  pub walked-met : (completion : ℕ) (result : Result (Poll (Unit {0})) Error) → IfOk result (λ met. Made old new (Plainly (CompletionPoll completion)) (met_reply met)) → IfErr result (λ e. IsRefused old new (Plainly (CompletionPoll completion)) e) → Walked (Does (Plainly (CompletionPoll completion)) (met_heard state)) old new (polled result) state
  walked-met completion (Ok (Ready done)) made refused = walked-made old new new _ _ (Plainly (CompletionPoll completion)) Done (Plain Done) _ made (refl, tt) refl (walked-gives new _ _)
  walked-met completion (Ok Pending) made refused = walked-made old new new _ _ (Plainly (CompletionPoll completion)) StillPending (Plain StillPending) _ made (refl, tt) refl (walked-gives new _ _)
  walked-met completion (Err error) made (inl lack) = walked-lacking old new _ _ _ lack.1 tt
  walked-met completion (Err error) made (inr is) = walked-made old new new _ _ (Plainly (CompletionPoll completion)) (Refused error) (Plain (Refused error)) _ is (refl, tt) refl (walked-gives new _ _)
