-- What calls of any part may be answered.
use Rattle.std.specs.Prelude.{◌≡◌, Bool, true, false}
use Rattle.rt_base.specs.declared.error.Error.{Error}
use Rattle.rt_base.specs.declared.error.Error.TheVariants.{Exited as HasExited, Closed as ErrClosed}
use Rattle.rt_audit.specs.declared.reply.CallReply.{CallReply}
use Rattle.rt_audit.specs.declared.reply.CallReply.TheVariants.{Pending as StillPending, Ready as IsReady, Refused}
use Rattle.rt_model.specs.declared.result.Outcome.{Outcome}
use Rattle.rt_model.specs.declared.result.Outcome.TheVariants.{Open, There, Exited, Closed as IsClosed}

-- the call was refused for this
abbrev pub IsRefusal : Error → CallReply → Type 0
IsRefusal error (Refused other) = other ≡ error
IsRefusal error _ = ⊥

abbrev pub OutcomeAnswers : Outcome → CallReply → Type 0
OutcomeAnswers (Open waits) reply = reply ≡ StillPending
OutcomeAnswers There reply = reply ≡ IsReady
OutcomeAnswers Exited reply = IsRefusal HasExited reply
OutcomeAnswers IsClosed reply = IsRefusal ErrClosed reply

-- the refusals of a call in their order: the first that holds, or what the call returns without one
abbrev pub Unless : Bool → Error → (CallReply → Type 0) → CallReply → Type 0
Unless true error otherwise reply = IsRefusal error reply
Unless false error otherwise reply = otherwise reply
