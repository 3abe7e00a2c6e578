-- A call of a part: what it carries beside its entry, what is heard of it, and which values it moves. Each has a line for each
-- call.
use Rattle.std.specs.Prelude.{◌≡◌, ◌+ℤ◌, ℕ, ℤ, List, [], ◌∷◌, ◌++◌, Option, Some, None, is_some, option_and_then, Result, Ok, Err, Bool, true, eqb, ltb, if◌then◌else◌}
use Rattle.rt_base.specs.declared.error.Error.{Error}
use Rattle.rt_base.specs.declared.execution.Execution.{Execution}
use Rattle.rt_audit.specs.declared.call.Call.{Call}
use Rattle.rt_audit.specs.declared.call.Call.TheVariants.{CloseNode, Spawn, Abort, Join, GiveUp, SleepPoll, Slots, Signal, SignalClose, SignalerClose, CompletionClose}
use Rattle.rt_audit.specs.declared.slot_call.SlotCall.TheVariants.{Send as SlotSend, Poll as SlotPoll, GiveUp as SlotGiveUp, AbortWait}
use Rattle.rt_audit.specs.declared.reply.CallReply.{CallReply}
use Rattle.rt_audit.specs.declared.reply.CallReply.TheVariants.{Done, TaskAt, PendingAt, Ready as IsReady, Refused}
use Rattle.rt_super.specs.Alarms.{AlarmList}
use Rattle.rt_super.specs.Ancestry.{is_live}
use Rattle.rt_model.specs.Lists.{find, without}
use Rattle.rt_model.specs.Results.{may_abort}
use Rattle.rt_model.specs.Slots.{Slotted, is_open, slot_place}
use Rattle.rt_model.specs.Signals.{has_signaler}
use Rattle.rt_model.specs.State.{Stood, Turn}
use Rattle.rt_model.specs.Alarms.{alarm_of}

-- a call, with what it carries and its entry doesn't keep: the alarm of a sleep, the result that is sent into a slot, or where a task
-- that is spawned asks to run, and its state by the number of its node
pub data Ask (A O : Type 0) : Type 0 where
  Plainly : (call : Call) → Ask A O
  Sleeping : (due : ℕ) → (alarm : Option ℕ) → Ask A O
  Sending : (slot : ℕ) → (sent : Result O Error) → Ask A O
  Spawning : (node : ℕ) → (execution : Execution) → (made : ℕ → A) → Ask A O

-- what was heard of a call: its reply, or the value that a ready one hands out
pub data Heard (O : Type 0) : Type 0 where
  Plain : (reply : CallReply) → Heard O
  Handed : (value : O) → Heard O

-- the values that the world holds beside its entries: the tasks' states in order of their numbers, the results that wait, what was
-- sent into slots and wasn't taken, and where each task that was spawned asked to run
pub record Held (A O : Type 0) : Type 0 where
  pub tasks : List (ℕ × A)
  pub results : List (ℕ × O)
  pub sent : List (ℕ × Result O Error)
  pub executions : List (ℕ × Execution)
  -- by how much each metric was changed
  pub counts : List (ℕ × ℤ)

-- a change of a metric, which writes no entry and of which nothing is heard
pub record Change : Type 0 where
  pub metric : ℕ
  pub by : ℤ

abbrev pub with_change : ℕ → ℤ → List (ℕ × ℤ) → List (ℕ × ℤ)
with_change k by [] = (k, by) ∷ []
with_change k by (x ∷ xs) = if eqb x.0 k then (k, x.1 +ℤ by) ∷ xs else x ∷ with_change k by xs

-- the values after a change of a metric
abbrev pub counted : {A O : Type 0} → Change → Held A O → Held A O
counted change held = record held { counts = with_change change.metric change.by held.counts }

-- the same values, but for the metrics'
abbrev pub IsCounted : {A O : Type 0} → Held A O → Held A O → Type 0
IsCounted held end = (counts : List (ℕ × ℤ)) × (end ≡ record held { counts = counts })

abbrev pub call_of : {A O : Type 0} → Ask A O → Call
call_of (Plainly call) = call
call_of (Sleeping due alarm) = SleepPoll due
call_of (Sending slot sent) = Slots (SlotSend slot)
call_of (Spawning node execution made) = Spawn node

-- a pending sleep receives the number of its own alarm
abbrev pub IsOwn : AlarmList → ℕ → Option ℕ → CallReply → Type 0
IsOwn alarms due alarm (PendingAt number) = number ≡ alarm_of alarms due alarm
IsOwn alarms due alarm _ = Unit {0}

-- a call that carries nothing beside its entry
abbrev pub IsPlain : Call → Type 0
IsPlain (SleepPoll due) = ⊥
IsPlain (Spawn node) = ⊥
IsPlain (Slots (SlotSend slot)) = ⊥
IsPlain _ = Unit {0}

-- what was sent into a slot decides what its poll returns: it is ready with a value, and refused with the error that was sent
abbrev pub IsAnswerOf : {O : Type 0} → Option (Result O Error) → CallReply → Type 0
IsAnswerOf None reply = Unit {0}
IsAnswerOf (Some (Ok value)) reply = reply ≡ IsReady
IsAnswerOf (Some (Err error)) reply = reply ≡ Refused error

-- a call that carries nothing beside its entry, with a reply that goes by what is held and what was there
abbrev pub IsPlainly : {A O : Type 0} → Held A O → Stood → Call → CallReply → Type 0
IsPlainly held stood (Slots (SlotPoll slot)) reply = IsAnswerOf (find slot held.sent) reply
IsPlainly held stood call reply = IsPlain call

-- the reply is one that is given to what the call carries, and to what is held
abbrev pub Fits : {A O : Type 0} → Held A O → Ask A O → Turn → Type 0
Fits held (Plainly call) t = IsPlainly held t.stood call t.reply
Fits held (Sleeping due alarm) t = IsOwn t.stood.alarms due alarm t.reply
Fits held (Sending slot sent) t = Unit {0}
Fits held (Spawning node execution made) t = Unit {0}

-- the turn is this call
abbrev pub Asks : {A O : Type 0} → Held A O → Ask A O → Turn → Type 0
Asks held ask t = (t.call ≡ call_of ask) × Fits held ask t

-- the tasks with a further one in its place
abbrev pub with_task : {A : Type 0} → ℕ → A → List (ℕ × A) → List (ℕ × A)
with_task k a [] = (k, a) ∷ []
with_task k a (x ∷ xs) = if ltb k x.0 then (k, a) ∷ (x ∷ xs) else x ∷ with_task k a xs

-- with the state of this task put in
abbrev pub put : {A O : Type 0} → ℕ → A → Held A O → Held A O
put k a held = record held { tasks = with_task k a held.tasks }

-- with a task that was spawned
abbrev pub with_spawned : {A O : Type 0} → ℕ → Execution → A → Held A O → Held A O
with_spawned k execution a held =
    record held { tasks = with_task k a held.tasks; executions = held.executions ++ (k, execution) ∷ [] }

-- what is heard of a turn: a result that is there is handed out
abbrev pub handed : {O : Type 0} → Option O → CallReply → Heard O
handed None reply = Plain reply
handed (Some value) reply = Handed value

-- the value that was sent, if it was one
abbrev pub sent_value : {O : Type 0} → Result O Error → Option O
sent_value (Ok value) = Some value
sent_value (Err error) = None

abbrev pub heard_by : {A O : Type 0} → Held A O → Call → CallReply → Heard O
heard_by held (Join task) IsReady = handed (find task held.results) IsReady
heard_by held (Slots (SlotPoll slot)) IsReady = handed (option_and_then sent_value (find slot held.sent)) IsReady
heard_by held _ reply = Plain reply

abbrev pub heard_of : {A O : Type 0} → Held A O → Turn → Heard O
heard_of held t = heard_by held t.call t.reply

-- without the result of a task
abbrev pub freed : {A O : Type 0} → ℕ → Held A O → Held A O
freed k held = record held { results = without k held.results }

-- without what was sent into a slot
abbrev pub unsent : {A O : Type 0} → ℕ → Held A O → Held A O
unsent slot held = record held { sent = without slot held.sent }

-- a result that was handed out or given up is gone. An error that was sent stays, since a refused call changes nothing
abbrev pub freed_by : {A O : Type 0} → Held A O → Call → CallReply → Held A O
freed_by held (Join task) IsReady = freed task held
freed_by held (GiveUp task) Done = freed task held
freed_by held (Slots (SlotPoll slot)) IsReady = unsent slot held
freed_by held (Slots (SlotGiveUp slot)) Done = unsent slot held
freed_by held (Slots (AbortWait slot)) Done = unsent slot held
freed_by held _ _ = held

-- what is sent is held from then on, where the slot is open. Elsewhere it is dropped
abbrev pub with_sent : {A O : Type 0} → Slotted → ℕ → Result O Error → Held A O → Held A O
with_sent slots slot sent held =
    if is_open (find slot slots.results) then record held { sent = with_task slot sent held.sent } else held

-- a task that was spawned is held from then on, in the state that was made for its node
abbrev pub moved_by : {A O : Type 0} → Stood → Held A O → Ask A O → Call → CallReply → Held A O
moved_by stood held (Spawning node execution made) call (TaskAt task number) = with_spawned task execution (made number) held
moved_by stood held (Sending slot sent) call Done = with_sent stood.slots slot sent held
moved_by stood held _ call reply = freed_by held call reply

-- the values after a turn
abbrev pub moved : {A O : Type 0} → Held A O → Ask A O → Turn → Held A O
moved held ask t = moved_by t.stood held ask t.call t.reply

-- the values after a call whose ask isn't known: a task that it spawned has some state, and asked to run somewhere, and what it
-- sent
-- is some result
abbrev pub FreesOne : {A O : Type 0} → Stood → Held A O → Call → CallReply → Held A O → Type 0
FreesOne {A = A} stood held (Spawn node) (TaskAt task number) end =
    (execution : Execution) × (a : A) × (end ≡ with_spawned task execution a held)
FreesOne {O = O} stood held (Slots (SlotSend slot)) Done end = (sent : Result O Error) × (end ≡ with_sent stood.slots slot sent held)
FreesOne stood held call reply end = end ≡ freed_by held call reply

-- the same of several calls. The metrics may have any values between them
abbrev pub Frees : {A O : Type 0} → Held A O → List Turn → Held A O → Type 0
Frees held [] end = IsCounted held end
Frees {A = A} {O = O} held (t ∷ ts) end =
    (counts : List (ℕ × ℤ)) × (mid : Held A O) × FreesOne t.stood (record held { counts = counts }) t.call t.reply mid × Frees mid ts end

-- the token that a call spends is there, and so is the place of its entry. Otherwise the call writes none
abbrev pub has_place : Stood → Call → Bool
has_place stood (CloseNode node) = is_live stood.nodes node
has_place stood (Abort task) = may_abort (find task stood.results)
has_place stood (GiveUp task) = is_some (find task stood.results)
has_place stood (Slots call) = slot_place stood.slots call
has_place stood (Signal signaler value) = has_signaler stood.signals stood.stop signaler
has_place stood (SignalClose signal) = is_some (find signal stood.signals.signals)
has_place stood (SignalerClose signaler) = has_signaler stood.signals stood.stop signaler
has_place stood (CompletionClose completion) = is_some (find completion stood.signals.completions)
has_place stood _ = true
