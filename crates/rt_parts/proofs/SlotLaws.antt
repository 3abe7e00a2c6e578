-- What a call on slots needs and frees.
use Rattle.std.proofs.Common.{◌≡◌, ◌≤◌, ◌<◌, ◌+◌, ◌-◌, ℕ, List, refl, true, false, arith, Bool, Option, Some, None, length}
use Rattle.rt_audit.specs.declared.slot_call.SlotCall.{SlotCall}
use Rattle.rt_audit.specs.declared.slot_call.SlotCall.TheVariants.{Make, Send, Close, Poll, GiveUp, AbortWait}
use Rattle.rt_audit.specs.declared.reply.CallReply.TheVariants.{Done, Pending}
use Rattle.rt_base.specs.declared.error.Error.TheVariants.{Aborted}
use Rattle.rt_model.specs.declared.result.Outcome.{Outcome}
use Rattle.rt_model.specs.declared.result.Outcome.TheVariants.{Open, There, Exited, Closed}
use Rattle.rt_model.specs.declared.result.TaskResult.{TaskResult}
use Rattle.rt_model.specs.Replies.{Unless}
use Rattle.rt_model.specs.Slots.{Slotted, AnswersSlot, ReceiveAnswers, SlotAnswers, slot_place}
use Rattle.rt_parts.specs.Room.{open_places, ones}
use Rattle.rt_parts.specs.Slots.{is_spending, slot_cost}
use Rattle.rt_parts.proofs.Totals.{sender-fewer, more-places, without-places, waits-places}

-- a poll that is pending found the slot open
pub pending-open : (o : Option TaskResult) → ReceiveAnswers o Pending → (r : TaskResult) × (o ≡ Some r) × (open_places r.outcome ≡ 1)
pending-open None a = absurd a
pending-open (Some r) a = (r, refl, by r.aborted r.outcome a)
  where
    by : (b : Bool) (o : Outcome) → Unless b Aborted (SlotAnswers o) Pending → open_places o ≡ 1
    by true o a = absurd a
    by false (Open waits) a = refl
    by false There a = absurd a
    by false Exited a = absurd a
    by false Closed a = absurd a

pub cost-spent : (call : SlotCall) → is_spending call ≡ true → slot_cost call ≡ 0
cost-spent Make h = cc
cost-spent _ h = refl

-- a token that is there is spent
pub place-answers : (ss : Slotted) (call : SlotCall) → is_spending call ≡ true → slot_place ss call ≡ true → AnswersSlot ss call Done
place-answers ss Make h p = cc
place-answers ss (Poll slot) h p = cc
place-answers ss (Send slot) h p = (refl, p)
place-answers ss (Close slot) h p = (refl, p)
place-answers ss (GiveUp slot) h p = (refl, p)
place-answers ss (AbortWait slot) h p = (refl, p)

pub ruleset apply_laws = (sender-fewer, more-places, without-places, waits-places)

pub ruleset call_laws = (place-answers)
