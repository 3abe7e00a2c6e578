-- What the two ends of a slot do next.
use Rattle.std.specs.Prelude.{ℕ, Option, Some, None, Result, Ok, Err}
use Rattle.rt_base.specs.declared.error.Error.{Error}
use Rattle.rt_base.specs.declared.error.Error.TheVariants.{NoMemory}
use Rattle.rt_base.specs.declared.poll.Poll.{Poll}
use Rattle.rt_base.specs.declared.poll.Poll.TheVariants.{Ready, Pending}
use Rattle.rt_audit.specs.declared.call.Call.TheVariants.{Slots}
use Rattle.rt_audit.specs.declared.slot_call.SlotCall.TheVariants.{Poll as SlotPoll, GiveUp as SlotGiveUp}
use Rattle.rt_audit.specs.declared.reply.CallReply.{CallReply}
use Rattle.rt_audit.specs.declared.reply.CallReply.TheVariants.{Pending as StillPending, Refused}
use Rattle.rt_model.specs.Turns.{Plainly, Heard, Plain, Handed}
use Rattle.rt_model.specs.Walk.{Step, Last, Does, Spends, Gives}

-- the answer of a poll, by what was heard of the result
abbrev pub polled : {O : Type 0} → Result (Option O) Error → Poll (Result O Error)
polled (Ok None) = Pending
polled (Ok (Some value)) = Ready (Ok value)
polled (Err error) = Ready (Err error)

-- a result was polled, and this was heard of it: the answer, and the state that stays
abbrev pub told_result : {A L O : Type 0} → L → CallReply → Step A L O (Poll (Result O Error))
told_result state StillPending = Gives Pending state
told_result state (Refused error) = Gives (Ready (Err error)) state
told_result state _ = Gives (Ready (Err NoMemory)) state

abbrev pub heard_result : {A L O : Type 0} → L → Heard O → Step A L O (Poll (Result O Error))
heard_result state (Plain reply) = told_result state reply
heard_result state (Handed value) = Gives (Ready (Ok value)) state

-- a receiver polls its slot
unfoldable pub receiver_polls : {A O : Type 0} → ℕ → Step A ℕ O (Poll (Result O Error))
receiver_polls slot = Does (Plainly (Slots (SlotPoll slot))) (heard_result slot)

-- giving it up gives up what was to come
unfoldable pub receiver_spends : {A O : Type 0} → ℕ → Last A O
receiver_spends slot = Spends (Plainly (Slots (SlotGiveUp slot))) (Gives tt tt)
