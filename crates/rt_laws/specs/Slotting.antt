-- A root that sends itself a number or an error by a slot, and what comes near to its run.
use Rattle.std.specs.Prelude.{ℕ, List, [], ◌∷◌, ◌++◌, Some, None, Result}
use Rattle.rt_base.specs.declared.error.Error.{Error}
use Rattle.rt_audit.specs.declared.call.Call.TheVariants.{CloseNode, Slots}
use Rattle.rt_audit.specs.declared.slot_call.SlotCall.TheVariants.{Make as Slot, Send as SlotSend, Poll as SlotPoll, GiveUp as SlotGiveUp}
use Rattle.rt_audit.specs.declared.reply.CallReply.{CallReply}
use Rattle.rt_audit.specs.declared.reply.CallReply.TheVariants.{Done, SlotAt, Pending as StillPending, Refused}
use Rattle.rt_audit.specs.declared.answer.AnswerKind.TheVariants.{Pending as AnswersPending, Ready as AnswersReady, NoMemory as LacksMemory, Ended}
use Rattle.rt_audit.specs.declared.finish.FinishCause.TheVariants.{Completed, NoMemory}
use Rattle.rt_audit.specs.declared.entry.Entry.{Entry}
use Rattle.rt_audit.specs.declared.entry.Entry.TheVariants.{Start, Call, Wake, Root, Round, Answer as Answered, NodeEnd, Advance, Cleanup}
use Rattle.rt_model.specs.declared.answer.Answer.{Answer}
use Rattle.rt_model.specs.declared.answer.Answer.TheVariants.{Pending, Ready}
use Rattle.rt_model.specs.Turns.{Plainly, Sending, Heard, Plain, Handed}
use Rattle.rt_model.specs.Walk.{Step, Does, Spends, Gives, Last}
use Rattle.rt_model.specs.Tied.{Steps, with_first}
use Rattle.rt_laws.specs.Examples.{opening, visiting_root, root_ends, finishing}
use Rattle.rt_laws.specs.Supervised.{closes, without_value}

pub data Mailer : Type 0 where
  -- before it makes a slot, and once it gave that up
  Idle : Mailer
  -- it waits for what comes by this slot
  Waiting : (slot : ℕ) → Mailer

-- what came is its answer, or what stands for none. The slot is given up
abbrev pub received : ℕ → Heard ℕ → Step Mailer Mailer ℕ (Answer ℕ)
received slot (Handed value) = Spends (Plainly (Slots (SlotGiveUp slot))) (Gives (Ready value) Idle)
received slot (Plain (Refused error)) = Spends (Plainly (Slots (SlotGiveUp slot))) (Gives (Ready without_value) Idle)
received slot _ = Gives Pending (Waiting slot)

-- it waits for the slot that it made, and then sends into it
abbrev pub slot_made : Result ℕ Error → Heard ℕ → Step Mailer Mailer ℕ (Answer ℕ)
slot_made sent (Plain (SlotAt slot)) = Does (Plainly (Slots (SlotPoll slot))) (λ heard. Spends (Sending slot sent) (Gives Pending (Waiting slot)))
slot_made sent _ = Gives Pending Idle

abbrev pub mails : Result ℕ Error → Mailer → Step Mailer Mailer ℕ (Answer ℕ)
mails sent Idle = Does (Plainly (Slots Slot)) (slot_made sent)
mails sent (Waiting slot) = Does (Plainly (Slots (SlotPoll slot))) (received slot)

abbrev pub mail_ends : Mailer → Last Mailer ℕ
mail_ends Idle = closes 0
mail_ends (Waiting slot) = Spends (Plainly (Slots (SlotGiveUp slot))) (closes 0)

-- a root that sends itself this, and gives the number that it receives
abbrev pub mailing_root : Result ℕ Error → Steps Mailer ℕ
mailing_root sent = with_first (record { next = λ mailer now task. mails sent mailer; last = λ mailer now task. mail_ends mailer }) (λ now. Gives tt Idle)

-- a root that sends this into the slot of its maker, polls the slot, and waits
abbrev pub sending_root : Result ℕ Error → Steps (Unit {0}) ℕ
sending_root sent =
    with_first
    (record {
      next = λ state now task. Spends (Sending 0 sent) (Does (Plainly (Slots (SlotPoll 0))) (λ heard. Gives Pending state));
      last = λ state now task. Spends (Plainly (Slots (SlotGiveUp 0))) (closes 0);
    })
    (λ now. Does (Plainly (Slots Slot)) (λ heard. Gives tt tt))

-- its maker has made the slot
abbrev pub slot_ready : List Entry
slot_ready = Start 0 0 None 1000000 ∷ Call None (Slots Slot) (SlotAt 0) ∷ Root 0 ∷ Round (0 ∷ []) ∷ []

-- it sends, and lacks memory behind that
abbrev pub send_lacks : List Entry
send_lacks = slot_ready ++ visiting_root ++ (Call (Some 0) (Slots (SlotSend 0)) Done ∷ Answered 0 LacksMemory ∷ [])

-- its end gives the slot up
abbrev pub sending_journal : List Entry
sending_journal =
    send_lacks ++ (Cleanup ∷ NodeEnd 0 ∷ Call (Some 0) (Slots (SlotGiveUp 0)) Done ∷ Call (Some 0) (CloseNode 0) Done ∷ Answered 0 Ended ∷ []) ++ finishing NoMemory

-- it waits for the slot that it made and sends into it, and its next poll is answered so
abbrev pub slot_received : CallReply → List Entry
slot_received reply =
    opening
    ++ visiting_root
    ++ (Call (Some 0) (Slots Slot) (SlotAt 0) ∷ Call (Some 0) (Slots (SlotPoll 0)) StillPending ∷ Call (Some 0) (Slots (SlotSend 0)) Done ∷ Wake 0 ∷ [])
    ++ (Answered 0 AnswersPending ∷ Advance 1000000 ∷ Round (0 ∷ []) ∷ [])
    ++ visiting_root
    ++ (Call (Some 0) (Slots (SlotPoll 0)) reply ∷ [])

abbrev pub mailing_journal : CallReply → List Entry
mailing_journal reply = slot_received reply ++ (Call (Some 0) (Slots (SlotGiveUp 0)) Done ∷ Answered 0 AnswersReady ∷ []) ++ root_ends ++ finishing Completed
