-- What each entry does to the parts of a state.
use Rattle.std.specs.Prelude.{ℕ, List, [], ◌∷◌, ◌++◌, Option, Some, None, Bool, true, false, not, ◌&&◌, ◌||◌, if◌then◌else◌, ◌+◌, drop, unwrap_or}
use Rattle.std.specs.Option.{option_map_or}
use Rattle.rt_base.specs.Label.{prefixed}
use Rattle.rt_audit.specs.declared.call.Call.{Call}
use Rattle.rt_audit.specs.declared.call.Call.TheVariants.{Child, CloseNode, Spawn, Abort, AbortTask, Wake as WakeCall, Join, GiveUp, SleepPoll, Slots, Signaler, CloneSignal, Signal, SignalPoll, SignalClose, SignalerClose, CompletionPoll, CompletionClose, Stop, Stopped as StoppedCall, NextU32, NextU64, FillBytes}
use Rattle.rt_audit.specs.declared.reply.CallReply.{CallReply}
use Rattle.rt_audit.specs.declared.reply.CallReply.TheVariants.{Done, NodeAt, TaskAt, Closed, SlotAt, SignalAt, CompletionAt, Pending as StillPending, PendingAt, Ready as IsReady, Number, Bytes}
use Rattle.rt_audit.specs.declared.answer.AnswerKind.{AnswerKind}
use Rattle.rt_audit.specs.declared.answer.AnswerKind.TheVariants.{Pending, Ready, Panicked, Stopped, NoMemory, Ended}
use Rattle.rt_audit.specs.declared.finish.FinishCause.{FinishCause}
use Rattle.rt_audit.specs.declared.finish.FinishCause.TheVariants.{Completed, TaskPanicked, NoMemory as OutOfMemory}
use Rattle.rt_audit.specs.declared.entry.Entry.{Entry}
use Rattle.rt_audit.specs.declared.entry.Entry.TheVariants.{Start, Call as CallEntry, Event, Wake, Draw, Root, Round, Visit, Answer, NodeEnd, Advance, Skip, Fire, Cleanup, Crash, Finish}
use Rattle.rt_super.specs.Alarms.{AlarmList, alarms_cleared}
use Rattle.rt_super.specs.Ancestry.{TreeRecord, is_ended, with_child, with_task, with_release, with_end}
use Rattle.rt_super.specs.Signals.{SignalRecord, StopRecord, with_group, with_clone, signaled, signal_polled, signal_closed, signaler_closed, completion_polled, completion_closed, stop_after, stopped_after, with_stop, woken_by_value, woken_by_last, woken_by_closing, woken_by_stop}
use Rattle.rt_model.specs.declared.mark.Mark.{Mark}
use Rattle.rt_model.specs.declared.result.Outcome.{Outcome}
use Rattle.rt_model.specs.declared.result.Outcome.TheVariants.{Open, There, Exited, Closed as IsClosed}
use Rattle.rt_model.specs.declared.result.TaskResult.{TaskResult}
use Rattle.rt_model.specs.Draws.{Drawn, Short, Long, Filled}
use Rattle.rt_model.specs.Lists.{find, without, those, without_number, with_number, is_some_number}
use Rattle.rt_model.specs.Marks.{new_mark, is_flagged, is_ended_at, flag, flag_all, due_of, due_all, leave}
use Rattle.rt_model.specs.Results.{new_result, waiting, with_outcome, with_abort}
use Rattle.rt_model.specs.Slots.{Slotted, slots_by, slots_wake}
use Rattle.rt_model.specs.State.{Phase, Making, Between, Visiting, Entered, Polling, Halted, Ending, Leaving, Turning, Over, Cleaning, Closing, Crashed, Finished, Clock, Numbers, Announced, Turn, Stood, State}
use Rattle.rt_model.specs.Alarms.{slept, woken_by}
use Rattle.rt_model.specs.Causes.{reached, from_running}

-- after the cleanup has begun nothing wakes
abbrev pub is_closing : Phase → Bool
is_closing (Cleaning cause) = true
is_closing (Closing cause) = true
is_closing _ = false

-- the clock

abbrev pub clock_after : Clock → Entry → Clock
clock_after c (Advance now) = record { time = now; fixed = c.fixed }
clock_after c (Skip now) = record { time = now; fixed = c.fixed }
clock_after c _ = c

-- task numbers

abbrev pub numbers_called : Numbers → Call → CallReply → Numbers
numbers_called n (Spawn node) (TaskAt task number) = record { first = n.first; next = task + 1 }
numbers_called n _ _ = n

abbrev pub numbers_after : Numbers → Entry → Numbers
numbers_after n (CallEntry by call reply) = numbers_called n call reply
numbers_after n (Root task) = record { first = n.first; next = task + 1 }
numbers_after n _ = n

abbrev pub root_after : Option ℕ → Entry → Option ℕ
root_after root (Root task) = Some task
root_after root _ = root

-- the root was left pending once

abbrev pub left_answered : Option ℕ → Bool → ℕ → AnswerKind → Bool
left_answered root left task Pending = is_some_number task root || left
left_answered root left task _ = left

abbrev pub root_left_after : Option ℕ → Bool → Entry → Bool
root_left_after root left (Answer task kind) = left_answered root left task kind
root_left_after root left _ = left

-- a panic is kept: the first that a spawned task reports, where none is caught

abbrev pub is_panic : Option Outcome → Bool
is_panic (Some Exited) = true
is_panic _ = false

abbrev pub ends_in_panic : Phase → Bool
ends_in_panic (Ending task result left) = is_panic result
ends_in_panic _ = false

abbrev pub panics_answered : State → AnswerKind → Bool
panics_answered s Ended = s.panicked || (ends_in_panic s.phase && not s.clock.fixed.catch)
panics_answered s _ = s.panicked

abbrev pub panicked_after : State → Entry → Bool
panicked_after s (Answer task kind) = panics_answered s kind
panicked_after s _ = s.panicked

-- the tasks that run

abbrev pub running_called : List ℕ → Call → CallReply → List ℕ
running_called running (Spawn node) (TaskAt task number) = with_number task running
running_called running _ _ = running

abbrev pub running_answered : List ℕ → ℕ → AnswerKind → List ℕ
running_answered running task Ended = without_number task running
running_answered running task _ = running

abbrev pub running_after : List ℕ → Entry → List ℕ
running_after running (CallEntry by call reply) = running_called running call reply
running_after running (Root task) = with_number task running
running_after running (Answer task kind) = running_answered running task kind
running_after running _ = running

-- the ready list

abbrev pub ready_called : List ℕ → Call → CallReply → List ℕ
ready_called ready (Spawn node) (TaskAt task number) = ready ++ task ∷ []
ready_called ready _ _ = ready

abbrev pub ready_after : List ℕ → Entry → List ℕ
ready_after ready (CallEntry by call reply) = ready_called ready call reply
ready_after ready (Wake task) = ready ++ task ∷ []
ready_after ready (Root task) = ready ++ task ∷ []
ready_after ready (Round order) = []
ready_after ready Cleanup = []
ready_after ready _ = ready

-- what was drawn since the last entry that took some

abbrev pub draws_after : List ℕ → Entry → List ℕ
draws_after draws (Draw value) = draws ++ value ∷ []
draws_after draws (Round order) = []
draws_after draws (CallEntry by call reply) = []
draws_after draws (Crash choices) = []
draws_after draws _ = draws

-- all that was drawn

abbrev pub drawn_called : List Drawn → Call → CallReply → List Drawn
drawn_called drawn NextU32 (Number number) = drawn ++ Short number ∷ []
drawn_called drawn NextU64 (Number number) = drawn ++ Long number ∷ []
drawn_called drawn (FillBytes len) (Bytes bytes) = drawn ++ Filled bytes ∷ []
drawn_called drawn _ _ = drawn

abbrev pub drawn_after : List Drawn → Entry → List Drawn
drawn_after drawn (Draw value) = drawn ++ Long value ∷ []
drawn_after drawn (CallEntry by call reply) = drawn_called drawn call reply
drawn_after drawn _ = drawn

-- alarms

abbrev pub alarms_called : AlarmList → Option ℕ → Call → CallReply → AlarmList
alarms_called a by (SleepPoll due) (PendingAt number) = slept a by due number
alarms_called a by _ _ = a

-- the first alarm went off
abbrev pub fired : AlarmList → AlarmList
fired a = record a { alarms = drop 1 a.alarms }

-- nodes

abbrev pub nodes_called : TreeRecord → Call → CallReply → TreeRecord
nodes_called n (Child node label) (NodeAt number ended) = with_child n number node
nodes_called n (CloseNode node) Done = with_release n node
-- the spawned task's own context has a child of the node, which was made first
nodes_called n (Spawn node) (TaskAt task number) = with_task (with_child n number node) node task
nodes_called n (Spawn node) Closed = with_release n node
nodes_called n _ _ = n

-- with no task whose flag nobody took
abbrev pub unflagged : TreeRecord → TreeRecord
unflagged n = record n { flags = [] }

-- the node of a task is live until the task ends. The root has none of its own
abbrev pub released : Option Mark → TreeRecord → TreeRecord
released None n = n
released (Some m) n = with_release n m.node

abbrev pub nodes_answered : TreeRecord → Option Mark → AnswerKind → TreeRecord
nodes_answered n m Ended = released m n
nodes_answered n m _ = n

-- labels: that of a child is its parent's, a low line and its own, and that of a task's own context its node's

abbrev pub label_at : List (ℕ × List ℕ) → ℕ → List ℕ
label_at labels node = unwrap_or (find node labels) []

abbrev pub labels_called : List (ℕ × List ℕ) → Call → CallReply → List (ℕ × List ℕ)
labels_called ls (Child node label) (NodeAt number ended) = ls ++ (number, prefixed (label_at ls node) label) ∷ []
labels_called ls (Spawn node) (TaskAt task number) = ls ++ (number, label_at ls node) ∷ []
labels_called ls _ _ = ls

abbrev pub labels_after : List (ℕ × List ℕ) → Entry → List (ℕ × List ℕ)
labels_after ls (CallEntry by call reply) = labels_called ls call reply
labels_after ls _ = ls

-- the label of a task is that of its node. The root's is empty
abbrev pub task_label : State → ℕ → List ℕ
task_label s task = option_map_or (λ m. label_at s.labels m.node) (find task s.marks) []

-- flags

-- the tasks that the end of this node flags, an ancestor's before its descendants'
abbrev pub flagged_by : TreeRecord → ℕ → List ℕ
flagged_by nodes node = (with_end nodes node).flags

-- who leaves the run with the end of its node
abbrev pub leaving : Phase → Option ℕ
leaving (Leaving task result left) = Some task
leaving _ = None

abbrev pub marks_called : List (ℕ × Mark) → Call → CallReply → List (ℕ × Mark)
marks_called ms (Spawn node) (TaskAt task number) = ms ++ (task, new_mark node) ∷ []
marks_called ms (Abort task) Done = flag task ms
marks_called ms (AbortTask task) Done = flag task ms
marks_called ms _ _ = ms

-- no node ends after the end of this task: in a cleanup, or where its node had ended before
abbrev pub is_settled : State → ℕ → Bool
is_settled s task = is_closing s.phase || is_ended_at s.stood.nodes (find task s.marks)

abbrev pub marks_ended : Bool → ℕ → List (ℕ × Mark) → List (ℕ × Mark)
marks_ended true task ms = without task ms
marks_ended false task ms = ms

abbrev pub marks_answered : State → ℕ → AnswerKind → List (ℕ × Mark)
marks_answered s task Pending = leave task s.marks
marks_answered s task Ended = marks_ended (is_settled s task) task s.marks
marks_answered s task _ = s.marks

abbrev pub unmarked : Option ℕ → List (ℕ × Mark) → List (ℕ × Mark)
unmarked None ms = ms
unmarked (Some task) ms = without task ms

abbrev pub marks_after : State → Entry → List (ℕ × Mark)
marks_after s (CallEntry by call reply) = marks_called s.marks call reply
marks_after s (Answer task kind) = marks_answered s task kind
marks_after s (NodeEnd node) = unmarked (leaving s.phase) (flag_all (flagged_by s.stood.nodes node) s.marks)
marks_after s _ = s.marks

-- results

abbrev pub results_called : List (ℕ × TaskResult) → Option ℕ → Call → CallReply → List (ℕ × TaskResult)
results_called rs by (Spawn node) (TaskAt task number) = rs ++ (task, new_result) ∷ []
results_called rs by (Abort task) Done = with_abort task rs
results_called rs by (Join task) StillPending = with_outcome (Open by) task rs
results_called rs by (Join task) IsReady = with_outcome IsClosed task rs
results_called rs by (GiveUp task) Done = without task rs
results_called rs by _ _ = rs

-- a task that has finished leaves its result at its own end. Any other closes it, with its node where that is to end
abbrev pub results_ended : Phase → Bool → ℕ → List (ℕ × TaskResult) → List (ℕ × TaskResult)
results_ended (Ending ended (Some result) left) settles task rs = with_outcome result task rs
results_ended _ true task rs = with_outcome IsClosed task rs
results_ended _ false task rs = rs

abbrev pub results_answered : State → ℕ → AnswerKind → List (ℕ × TaskResult)
results_answered s task Ended = results_ended s.phase (is_settled s task) task s.stood.results
results_answered s task _ = s.stood.results

abbrev pub results_left : Phase → List (ℕ × TaskResult) → List (ℕ × TaskResult)
results_left (Leaving task None left) rs = with_outcome IsClosed task rs
results_left _ rs = rs

-- slots

abbrev pub slots_called : Slotted → Option ℕ → Call → CallReply → Slotted
slots_called ss by (Slots call) reply = slots_by ss by call reply
slots_called ss by _ _ = ss

-- signals

abbrev pub signals_called : SignalRecord → StopRecord → Option ℕ → Call → CallReply → SignalRecord
signals_called r s by Signaler (SignalAt number) = with_group r
signals_called r s by (CloneSignal signal) (SignalAt number) = with_clone r signal
signals_called r s by (Signal signaler value) Done = signaled r signaler value
signals_called r s by (SignalPoll signal) StillPending = signal_polled r signal by
signals_called r s by (SignalClose signal) Done = signal_closed r signal
signals_called r s by (SignalerClose signaler) Done = signaler_closed r signaler
signals_called r s by (CompletionPoll completion) StillPending = completion_polled r completion by
signals_called r s by (CompletionClose completion) Done = completion_closed r completion
signals_called r s by (Stop value) (CompletionAt number) = stop_after r s value
signals_called r s by StoppedCall (SignalAt number) = stopped_after r s
signals_called r s by _ _ = r

abbrev pub stop_called : StopRecord → Call → CallReply → StopRecord
stop_called s (Stop value) (CompletionAt number) = with_stop s value
stop_called s _ _ = s

-- what is there after a call
abbrev pub stood_called : Stood → Option ℕ → Call → CallReply → Stood
stood_called s by call reply = record {
  alarms = alarms_called s.alarms by call reply;
  nodes = nodes_called s.nodes call reply;
  results = results_called s.results by call reply;
  slots = slots_called s.slots by call reply;
  signals = signals_called s.signals s.stop by call reply;
  stop = stop_called s.stop call reply;
}

-- whom an event must wake

abbrev pub wakes_called : List (ℕ × Mark) → Stood → Call → CallReply → List ℕ
wakes_called ms s (WakeCall task) Done = task ∷ []
wakes_called ms s (Abort task) Done = due_of task ms
wakes_called ms s (AbortTask task) Done = due_of task ms
wakes_called ms s (Slots call) reply = slots_wake s.slots call reply
wakes_called ms s (Signal signaler value) Done = woken_by_value s.signals signaler
wakes_called ms s (SignalClose signal) Done = woken_by_last s.signals signal
wakes_called ms s (SignalerClose signaler) Done = woken_by_closing s.signals signaler
wakes_called ms s (Stop value) (CompletionAt number) = woken_by_stop s.signals s.stop value
wakes_called ms s _ _ = []

abbrev pub due_called : Bool → List (ℕ × Mark) → Stood → Call → CallReply → List ℕ
due_called true ms s call reply = []
due_called false ms s call reply = wakes_called ms s call reply

-- a panic that is kept now wakes the root, where it was left pending once
abbrev pub due_panic : State → List ℕ
due_panic s =
    if s.root_left && not s.panicked && ends_in_panic s.phase && not s.clock.fixed.catch then those s.root else []

-- who waits for the result of a task that has finished, or that ends without a node to end
abbrev pub due_ended : Phase → Bool → Option TaskResult → List ℕ
due_ended (Ending ended (Some result) left) settles r = waiting r
due_ended (Ending ended None left) true r = waiting r
due_ended _ _ r = []

abbrev pub due_answered : State → ℕ → AnswerKind → List ℕ
due_answered s task Ended = due_panic s ++ due_ended s.phase (is_settled s task) (find task s.stood.results)
due_answered s task _ = []

-- who waits for the result of a task that leaves without one
abbrev pub due_left : Phase → List (ℕ × TaskResult) → List ℕ
due_left (Leaving task None left) rs = waiting (find task rs)
due_left _ rs = []

-- the tasks that the end of a node flags, and then who waits for the one that leaves with it
abbrev pub due_node : Bool → State → ℕ → List ℕ
due_node true s node = []
due_node false s node = due_all (flagged_by s.stood.nodes node) s.marks ++ due_left s.phase s.stood.results

abbrev pub owed_after : State → Entry → List ℕ
owed_after s (Wake task) = drop 1 s.owed
owed_after s (CallEntry by call reply) = due_called (is_closing s.phase) s.marks s.stood call reply
owed_after s (Answer task kind) = due_answered s task kind
owed_after s (NodeEnd node) = due_node (is_closing s.phase) s node
owed_after s (Fire number) = woken_by s.stood.alarms.alarms
owed_after s _ = []

-- the events of the call that comes next

abbrev pub announces : Phase → List Announced → List ℕ → List (List ℕ) → List Announced
announces (Entered task left) events label fields = events
announces p events label fields = events ++ record { label = label; fields = fields } ∷ []

abbrev pub announced_after : State → Entry → List Announced
announced_after s (Event label fields) = announces s.phase s.announced label fields
announced_after s (Wake task) = s.announced
announced_after s _ = []

-- the calls of the part under way

abbrev pub turns_after : State → Entry → List Turn
turns_after s (CallEntry by call reply) = s.turns ++ record { by = by; call = call; reply = reply; stood = s.stood } ∷ []
turns_after s (Wake task) = s.turns
turns_after s (Event label fields) = s.turns
turns_after s (Draw value) = s.turns
turns_after s _ = []

-- the phase of the run

abbrev pub left_of : Phase → List ℕ
left_of (Visiting left) = left
left_of (Entered task left) = left
left_of (Polling task left) = left
left_of (Ending task result left) = left
left_of (Leaving task result left) = left
left_of _ = []

-- the task that is visited
abbrev pub visited : Phase → ℕ
visited (Entered task left) = task
visited (Polling task left) = task
visited (Ending task result left) = task
visited (Leaving task result left) = task
visited (Halted task) = task
visited _ = 0

-- after the event of a visit: the root isn't polled where a panic is kept, and a task that is flagged ends unpolled
abbrev pub entered_by : Bool → Bool → ℕ → List ℕ → Phase
entered_by true flagged task left = Halted task
entered_by false true task left = Ending task None left
entered_by false false task left = Polling task left

abbrev pub entered : State → Phase → Phase
entered s (Entered task left) = entered_by (is_some_number task s.root && s.panicked) (is_flagged (find task s.marks)) task left
entered s p = p

abbrev pub cause_of : Phase → Option FinishCause
cause_of (Cleaning cause) = cause
cause_of (Closing cause) = cause
cause_of (Crashed cause) = cause
cause_of _ = None

-- after its end a task leaves its visit, or its node ends first
abbrev pub leaves : Bool → ℕ → Option Outcome → List ℕ → Phase
leaves true task result left = Visiting left
leaves false task result left = Leaving task result left

abbrev pub ended : Bool → Phase → Phase
ended settles (Ending task result left) = leaves settles task result left
ended settles p = p

-- the root's answer ends the rounds for this cause, and another task ends within its visit, with this result
abbrev pub finished : Bool → FinishCause → Outcome → ℕ → List ℕ → Phase
finished true cause result task left = Over cause
finished false cause result task left = Ending task (Some result) left

-- a task that was flagged ends where it is left pending
abbrev pub left_pending : Bool → ℕ → List ℕ → Phase
left_pending true task left = Ending task None left
left_pending false task left = Visiting left

abbrev pub answered : State → ℕ → AnswerKind → Phase
answered s task Pending = left_pending (is_flagged (find task s.marks)) task (left_of s.phase)
answered s task Ready = finished (is_some_number task s.root) Completed There task (left_of s.phase)
answered s task Panicked = finished (is_some_number task s.root) TaskPanicked Exited task (left_of s.phase)
answered s task Stopped = Over TaskPanicked
answered s task NoMemory = Over OutOfMemory
answered s task Ended = ended (is_settled s task) s.phase

-- a node has ended: that of a task that leaves, or in the cleanup node 0
abbrev pub node_ended : Phase → Phase
node_ended (Leaving task result left) = Visiting left
node_ended (Cleaning cause) = Closing cause
node_ended p = p

-- the cleanup ends node 0, where that hasn't ended
abbrev pub cleans : Bool → Option FinishCause → Phase
cleans true cause = Closing cause
cleans false cause = Cleaning cause

abbrev pub phase_after : State → Entry → Phase
phase_after s (Start next now deadline cycle) = Making
phase_after s (Root task) = Between
phase_after s (Round order) = Visiting order
phase_after s (Visit task) = Entered task (drop 1 (from_running s.running (left_of s.phase)))
phase_after s (Event label fields) = entered s s.phase
phase_after s (Answer task kind) = answered s task kind
phase_after s (Advance now) = Turning
phase_after s (NodeEnd node) = node_ended s.phase
phase_after s Cleanup = cleans (is_ended s.stood.nodes 0) (reached s)
phase_after s (Crash choices) = Crashed (cause_of s.phase)
phase_after s (Finish cause) = Finished cause
phase_after s _ = s.phase

-- what is there after an entry
abbrev pub stood_after : State → Entry → Stood
stood_after s (CallEntry by call reply) = stood_called s.stood by call reply
stood_after s (Answer task kind) =
    record s.stood { nodes = nodes_answered s.stood.nodes (find task s.marks) kind; results = results_answered s task kind }
stood_after s (NodeEnd node) =
    record s.stood { nodes = unflagged (with_end s.stood.nodes node); results = results_left s.phase s.stood.results }
stood_after s (Fire number) = record s.stood { alarms = fired s.stood.alarms }
stood_after s Cleanup = record s.stood { alarms = alarms_cleared s.stood.alarms }
stood_after s _ = s.stood

-- the state after an entry
unfoldable pub after : State → Entry → State
after s e = record {
  clock = clock_after s.clock e;
  phase = phase_after s e;
  numbers = numbers_after s.numbers e;
  root = root_after s.root e;
  root_left = root_left_after s.root s.root_left e;
  panicked = panicked_after s e;
  running = running_after s.running e;
  ready = ready_after s.ready e;
  draws = draws_after s.draws e;
  drawn = drawn_after s.drawn e;
  stood = stood_after s e;
  labels = labels_after s.labels e;
  marks = marks_after s e;
  announced = announced_after s e;
  owed = owed_after s e;
  turns = turns_after s e;
}

-- the state after these entries
abbrev pub after_all : State → List Entry → State
after_all s [] = s
after_all s (e ∷ es) = after_all (after s e) es
