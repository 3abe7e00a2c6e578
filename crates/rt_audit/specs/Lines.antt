-- The line of each entry.
use Rattle.std.specs.Prelude.{ℕ, ℤ, List, [], ◌∷◌, ◌++◌, Option, Some, None, Bool, true, false, codes}
use Rattle.std.specs.Fmt.{decimal, signed_decimal}
use Rattle.hex.specs.Hex.{encode_lower}
use Rattle.rt_base.specs.declared.choice.Choice.{Choice}
use Rattle.rt_base.specs.declared.choice.Choice.TheVariants.{Kept, Dropped, Prefix}
use Rattle.rt_audit.specs.declared.answer.AnswerKind.{AnswerKind}
use Rattle.rt_audit.specs.declared.answer.AnswerKind.TheVariants.{Pending as IsPending, Ready as IsReady, Panicked, Stopped as IsStopped, NoMemory as LacksMemory, Ended}
use Rattle.rt_audit.specs.declared.finish.FinishCause.{FinishCause}
use Rattle.rt_audit.specs.declared.finish.FinishCause.TheVariants.{Completed, Timeout, Stalled, TaskPanicked, TimeOverflow, TooManyTasks, NoMemory}
use Rattle.rt_audit.specs.declared.call.Call.{Call}
use Rattle.rt_audit.specs.declared.call.Call.TheVariants.{Child, CloseNode, Spawn, Abort, AbortTask, Wake as WakeCall, Join, GiveUp, SleepPoll, Slots, Signaler, CloneSignal, Signal, SignalPoll, SignalClose, SignalerClose, CompletionPoll, CompletionClose, Stop, Stopped, NextU32, NextU64, FillBytes, Auditor}
use Rattle.rt_audit.specs.declared.slot_call.SlotCall.{SlotCall}
use Rattle.rt_audit.specs.declared.slot_call.SlotCall.TheVariants.{Make, Send, Close, Poll, GiveUp as GiveSlotUp, AbortWait}
use Rattle.rt_audit.specs.declared.reply.CallReply.{CallReply}
use Rattle.rt_audit.specs.declared.reply.CallReply.TheVariants.{Done, NodeAt, TaskAt, Closed, SlotAt, SignalAt, CompletionAt, Value, ClosedWith, Pending, PendingAt, Ready, Number, Bytes, Refused}
use Rattle.rt_audit.specs.declared.entry.Entry.{Entry}
use Rattle.rt_audit.specs.declared.entry.Entry.TheVariants.{Start, Call as CallEntry, Event, Wake, Draw, Root, Round, Visit, Answer, NodeEnd, Advance, Skip, Fire, Cleanup, Crash, Finish}
use Rattle.rt_audit.specs.Codes.{code_of}

-- a word, a space and a number
abbrev pub numbered_text : List ℕ → ℕ → List ℕ
numbered_text word number = word ++ (codes " " ++ decimal number)

-- the same of a number that may be below zero
abbrev pub valued_text : List ℕ → ℤ → List ℕ
valued_text word number = word ++ (codes " " ++ signed_decimal number)

abbrev pub optional_number : Option ℕ → List ℕ
optional_number None = codes "-"
optional_number (Some number) = decimal number

-- each number after a space
abbrev pub numbers_text : List ℕ → List ℕ
numbers_text [] = []
numbers_text (number ∷ numbers) = (codes " " ++ decimal number) ++ numbers_text numbers

-- bytes in lower-case hex, or a dash where there are none
abbrev pub hex_text : List ℕ → List ℕ
hex_text [] = codes "-"
hex_text (byte ∷ bytes) = encode_lower (byte ∷ bytes)

-- each field after a space
abbrev pub fields_text : List (List ℕ) → List ℕ
fields_text [] = []
fields_text (field ∷ fields) = (codes " " ++ hex_text field) ++ fields_text fields

abbrev pub choice_text : Choice → List ℕ
choice_text Kept = codes "k"
choice_text Dropped = codes "d"
choice_text (Prefix length) = codes "p" ++ decimal length

-- each choice after a space
abbrev pub choices_text : List Choice → List ℕ
choices_text [] = []
choices_text (choice ∷ choices) = (codes " " ++ choice_text choice) ++ choices_text choices

abbrev pub kind_word : AnswerKind → List ℕ
kind_word IsPending = codes "pending"
kind_word IsReady = codes "ready"
kind_word Panicked = codes "panicked"
kind_word IsStopped = codes "stopped"
kind_word LacksMemory = codes "nomemory"
kind_word Ended = codes "ended"

abbrev pub cause_word : FinishCause → List ℕ
cause_word Completed = codes "ok"
cause_word Timeout = codes "timeout"
cause_word Stalled = codes "stalled"
cause_word TaskPanicked = codes "panicked"
cause_word TimeOverflow = codes "overflow"
cause_word TooManyTasks = codes "tasks"
cause_word NoMemory = codes "nomemory"

abbrev pub slot_text : SlotCall → List ℕ
slot_text Make = codes "slot"
slot_text (Send slot) = numbered_text (codes "slot-send") slot
slot_text (Close slot) = numbered_text (codes "slot-close") slot
slot_text (Poll slot) = numbered_text (codes "slot-poll") slot
slot_text (GiveSlotUp slot) = numbered_text (codes "slot-give-up") slot
slot_text (AbortWait slot) = numbered_text (codes "abort-wait") slot

abbrev pub call_text : Call → List ℕ
call_text (Child node label) = numbered_text (codes "child") node ++ codes " " ++ label
call_text (CloseNode node) = numbered_text (codes "close-node") node
call_text (Spawn node) = numbered_text (codes "spawn") node
call_text (Abort task) = numbered_text (codes "abort") task
call_text (AbortTask task) = numbered_text (codes "abort-task") task
call_text (WakeCall task) = numbered_text (codes "wake") task
call_text (Join task) = numbered_text (codes "join") task
call_text (GiveUp task) = numbered_text (codes "give-up") task
call_text (SleepPoll due) = numbered_text (codes "sleep-poll") due
call_text (Slots call) = slot_text call
call_text Signaler = codes "signaler"
call_text (CloneSignal signal) = numbered_text (codes "clone-signal") signal
call_text (Signal signaler value) = valued_text (numbered_text (codes "signal") signaler) value
call_text (SignalPoll signal) = numbered_text (codes "signal-poll") signal
call_text (SignalClose signal) = numbered_text (codes "signal-close") signal
call_text (SignalerClose signaler) = numbered_text (codes "signaler-close") signaler
call_text (CompletionPoll completion) = numbered_text (codes "completion-poll") completion
call_text (CompletionClose completion) = numbered_text (codes "completion-close") completion
call_text (Stop value) = valued_text (codes "stop") value
call_text Stopped = codes "stopped"
call_text NextU32 = codes "u32"
call_text NextU64 = codes "u64"
call_text (FillBytes len) = numbered_text (codes "fill") len
call_text Auditor = codes "auditor"

abbrev pub ended_word : Bool → List ℕ
ended_word true = codes " ended"
ended_word false = []

abbrev pub reply_text : CallReply → List ℕ
reply_text Done = codes "ok"
reply_text (NodeAt node ended) = numbered_text (codes "node") node ++ ended_word ended
reply_text (TaskAt task node) = numbered_text (codes "task") task ++ numbered_text (codes " node") node
reply_text Closed = codes "closed"
reply_text (SlotAt slot) = numbered_text (codes "slot") slot
reply_text (SignalAt signal) = numbered_text (codes "signal") signal
reply_text (CompletionAt completion) = numbered_text (codes "completion") completion
reply_text (Value value) = valued_text (codes "ok") value
reply_text (ClosedWith value) = valued_text (codes "closed") value
reply_text Pending = codes "pending"
reply_text (PendingAt alarm) = numbered_text (codes "pending") alarm
reply_text Ready = codes "ready"
reply_text (Number number) = decimal number
reply_text (Bytes bytes) = hex_text bytes
reply_text (Refused error) = numbered_text (codes "err") (code_of error)

abbrev pub start_text : ℕ → Option ℕ → ℕ → ℕ → List ℕ
start_text now deadline cycle next =
    numbered_text (codes "start") now ++ codes " " ++ optional_number deadline ++ codes " " ++ decimal cycle ++ codes " " ++ decimal next

abbrev pub called_text : Option ℕ → Call → CallReply → List ℕ
called_text by call reply =
    codes "call " ++ optional_number by ++ codes " " ++ call_text call ++ codes " -> " ++ reply_text reply

-- the line of an entry
abbrev pub line_of : Entry → List ℕ
line_of (Start next now deadline cycle) = start_text now deadline cycle next
line_of (CallEntry by call reply) = called_text by call reply
line_of (Event label fields) = codes "event " ++ label ++ fields_text fields
line_of (Wake task) = numbered_text (codes "wake") task
line_of (Draw value) = numbered_text (codes "draw") value
line_of (Root task) = numbered_text (codes "root") task
line_of (Round order) = codes "round" ++ numbers_text order
line_of (Visit task) = numbered_text (codes "visit") task
line_of (Answer task kind) = numbered_text (codes "answer") task ++ codes " " ++ kind_word kind
line_of (NodeEnd node) = numbered_text (codes "nodeend") node
line_of (Advance now) = numbered_text (codes "advance") now
line_of (Skip now) = numbered_text (codes "skip") now
line_of (Fire alarm) = numbered_text (codes "fire") alarm
line_of Cleanup = codes "cleanup"
line_of (Crash choices) = codes "crash" ++ choices_text choices
line_of (Finish cause) = codes "finish " ++ cause_word cause
