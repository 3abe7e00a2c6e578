-- Slots: results that are sent by hand, once. A slot has a sender and a receiver, each of which is spent once.
use Rattle.std.specs.Prelude.{◌≡◌, ℕ, is_some, List, [], ◌∷◌, ◌++◌, ◌+◌, Bool, true, false, Option, None, Some, not}
use Rattle.std.specs.Option.{option_map_or}
use Rattle.rt_model.specs.declared.result.Outcome.{Outcome}
use Rattle.rt_model.specs.declared.result.Outcome.TheVariants.{Open, There, Exited, Closed as IsClosed}
use Rattle.rt_model.specs.declared.result.TaskResult.{TaskResult}
use Rattle.rt_base.specs.declared.error.Error.TheVariants.{UnknownToken, Aborted}
use Rattle.rt_audit.specs.declared.slot_call.SlotCall.{SlotCall}
use Rattle.rt_audit.specs.declared.slot_call.SlotCall.TheVariants.{Make, Send, Close, Poll, GiveUp, AbortWait}
use Rattle.rt_audit.specs.declared.reply.CallReply.{CallReply}
use Rattle.rt_audit.specs.declared.reply.CallReply.TheVariants.{Done, SlotAt, Pending as StillPending, Ready as IsReady, Refused}
use Rattle.rt_model.specs.Lists.{find, without, replaced}
use Rattle.rt_model.specs.Replies.{IsRefusal, OutcomeAnswers, Unless}
use Rattle.rt_model.specs.Results.{may_abort, new_result, waiting, with_outcome}

pub record Slotted : Type 0 where
  -- the results of the slots whose receivers weren't spent
  pub results : List (ℕ × TaskResult)
  -- the slots whose senders weren't spent
  pub senders : List (ℕ × Unit {0})
  -- the number of the next slot
  pub count : ℕ

abbrev pub no_slots : Slotted
no_slots = record { results = []; senders = []; count = 0 }

-- a slot more
abbrev pub with_slot : ℕ → Slotted → Slotted
with_slot s ss = record {
  results = ss.results ++ (s, new_result) ∷ [];
  senders = ss.senders ++ (s, tt) ∷ [];
  count = s + 1;
}

-- what is sent is there from then on where the slot is open. Any other is as it was
abbrev pub settled : Outcome → TaskResult → TaskResult
settled o r = elim r.outcome [ Open waits ↦ record r { outcome = o } | There ↦ r | Exited ↦ r | IsClosed ↦ r ]

-- the sender is spent, and leaves this
abbrev pub with_sent : Outcome → ℕ → Slotted → Slotted
with_sent o s ss = record ss { results = replaced (settled o) s ss.results; senders = without s ss.senders }

-- the receiver polled, and the slot has this result
abbrev pub with_polled : Outcome → ℕ → Slotted → Slotted
with_polled o s ss = record ss { results = with_outcome o s ss.results }

-- the receiver is spent
abbrev pub without_slot : ℕ → Slotted → Slotted
without_slot s ss = record ss { results = without s ss.results }

-- nothing is waited for any more
abbrev pub aborted : TaskResult → TaskResult
aborted r = record { outcome = IsClosed; aborted = true }

abbrev pub with_wait_aborted : ℕ → Slotted → Slotted
with_wait_aborted s ss = record ss { results = replaced aborted s ss.results }

-- nothing was sent yet, and something may be
abbrev pub is_open : Option TaskResult → Bool
is_open None = false
is_open (Some r) = elim r.outcome [ Open waits ↦ true | There ↦ false | Exited ↦ false | IsClosed ↦ false ]

-- a result was sent and not taken
abbrev pub is_sent : TaskResult → Bool
is_sent r = elim r.outcome [ There ↦ not r.aborted | Open waits ↦ false | Exited ↦ false | IsClosed ↦ false ]

abbrev pub is_there : Option TaskResult → Bool
is_there r = option_map_or is_sent r false

-- A call on slots: which replies it may have, what it leaves, whom it wakes, and whether the token that it spends is there

-- a result that was sent: a value, or any error
abbrev pub IsSent : CallReply → Type 0
IsSent IsReady = Unit {0}
IsSent (Refused error) = Unit {0}
IsSent _ = ⊥

-- a poll of a slot
abbrev pub SlotAnswers : Outcome → CallReply → Type 0
SlotAnswers There reply = IsSent reply
SlotAnswers outcome reply = OutcomeAnswers outcome reply

abbrev pub ReceiveAnswers : Option TaskResult → CallReply → Type 0
ReceiveAnswers None reply = IsRefusal UnknownToken reply
ReceiveAnswers (Some r) reply = Unless r.aborted Aborted (SlotAnswers r.outcome) reply

-- the reply is one that the call may have
abbrev pub AnswersSlot : Slotted → SlotCall → CallReply → Type 0
AnswersSlot ss Make reply = reply ≡ SlotAt ss.count
AnswersSlot ss (Send slot) reply = (reply ≡ Done) × (is_some (find slot ss.senders) ≡ true)
AnswersSlot ss (Close slot) reply = (reply ≡ Done) × (is_some (find slot ss.senders) ≡ true)
AnswersSlot ss (Poll slot) reply = ReceiveAnswers (find slot ss.results) reply
AnswersSlot ss (GiveUp slot) reply = (reply ≡ Done) × (is_some (find slot ss.results) ≡ true)
AnswersSlot ss (AbortWait slot) reply = (reply ≡ Done) × (may_abort (find slot ss.results) ≡ true)

-- what it leaves. A refused call changes nothing
abbrev pub slots_by : Slotted → Option ℕ → SlotCall → CallReply → Slotted
slots_by ss by call (Refused error) = ss
slots_by ss by Make (SlotAt slot) = with_slot slot ss
slots_by ss by (Send slot) Done = with_sent There slot ss
slots_by ss by (Close slot) Done = with_sent IsClosed slot ss
slots_by ss by (Poll slot) StillPending = with_polled (Open by) slot ss
slots_by ss by (Poll slot) IsReady = with_polled IsClosed slot ss
slots_by ss by (GiveUp slot) Done = without_slot slot ss
slots_by ss by (AbortWait slot) Done = with_wait_aborted slot ss
slots_by ss by _ _ = ss

-- whom it wakes, where no cleanup has begun
abbrev pub slots_wake : Slotted → SlotCall → CallReply → List ℕ
slots_wake ss call (Refused error) = []
slots_wake ss (Send slot) Done = waiting (find slot ss.results)
slots_wake ss (Close slot) Done = waiting (find slot ss.results)
slots_wake ss (AbortWait slot) Done = waiting (find slot ss.results)
slots_wake ss _ _ = []

-- the token that the call spends is there
abbrev pub slot_place : Slotted → SlotCall → Bool
slot_place ss (Send slot) = is_some (find slot ss.senders)
slot_place ss (Close slot) = is_some (find slot ss.senders)
slot_place ss (GiveUp slot) = is_some (find slot ss.results)
slot_place ss (AbortWait slot) = may_abort (find slot ss.results)
slot_place ss _ = true
