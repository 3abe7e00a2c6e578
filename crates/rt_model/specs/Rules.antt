-- What may come next in a journal.
use Rattle.std.specs.Prelude.{◌≡◌, ◌≢◌, ◌⊎◌, ◌<◌, ◌≤◌, ◌+◌, ◌++◌, ◌-◌, ◌^◌, ℕ, List, [], ◌∷◌, Option, Some, None, is_some, option_map, Bool, true, false, not, ◌&&◌, leb, if◌then◌else◌, drop, length, Result, Ok, Err}
use Rattle.std.specs.List.Sorted.{IsPermutation}
use Rattle.rt_base.specs.declared.choice.Choice.{Choice}
use Rattle.rt_base.specs.declared.items.Items.{Items}
use Rattle.rt_base.specs.declared.error.Error.{Error}
use Rattle.rt_base.specs.declared.error.Error.TheVariants.{UnknownToken, TooManyTasks, Exited as HasExited, Closed as ErrClosed, Aborted, Metric}
use Rattle.rt_base.specs.declared.metric_error.MetricError.TheVariants.{BadLabel, Reserved}
use Rattle.rt_base.specs.declared.poll.Poll.{Poll}
use Rattle.rt_base.specs.Label.{is_label, is_reserved, prefixed}
use Rattle.rt_base.specs.declared.time.TheConstants.{MAX_TIME}
use Rattle.rt_audit.specs.declared.call.Call.{Call}
use Rattle.rt_audit.specs.declared.call.Call.TheVariants.{Child, CloseNode, Spawn, Abort, AbortTask, Wake as WakeCall, Join, GiveUp, SleepPoll, Slots, Signaler, CloneSignal, Signal, SignalPoll, SignalClose, SignalerClose, CompletionPoll, CompletionClose, Stop, Stopped as StoppedCall, NextU32, NextU64, FillBytes, Auditor}
use Rattle.rt_audit.specs.declared.reply.CallReply.{CallReply}
use Rattle.rt_audit.specs.declared.reply.CallReply.TheVariants.{Done, NodeAt, TaskAt, Closed, SlotAt, SignalAt, CompletionAt, Pending as StillPending, PendingAt, Ready as IsReady, Number, Bytes, Refused}
use Rattle.rt_audit.specs.declared.answer.AnswerKind.{AnswerKind}
use Rattle.rt_audit.specs.declared.answer.AnswerKind.TheVariants.{Pending, Ready, Panicked, Stopped, NoMemory, Ended}
use Rattle.rt_audit.specs.declared.finish.FinishCause.{FinishCause}
use Rattle.rt_audit.specs.declared.finish.FinishCause.TheVariants.{NoMemory as OutOfMemory}
use Rattle.rt_audit.specs.declared.entry.Entry.{Entry}
use Rattle.rt_audit.specs.declared.entry.Entry.TheVariants.{Start, Call as CallEntry, Event, Wake, Draw, Root, Round, Visit, Answer, NodeEnd, Advance, Skip, Fire, Cleanup, Crash, Finish}
use Rattle.rt_super.specs.Ancestry.{TreeRecord, is_live, is_known, is_ended, task_on}
use Rattle.rt_super.specs.Signals.{signal_answer, completion_answer, stopped_answer}
use Rattle.rt_model.specs.declared.mark.Mark.{Mark}
use Rattle.rt_model.specs.declared.result.Outcome.{Outcome}
use Rattle.rt_model.specs.declared.result.Outcome.TheVariants.{Open, There, Exited, Closed as IsClosed}
use Rattle.rt_model.specs.declared.result.TaskResult.{TaskResult}
use Rattle.rt_model.specs.Lists.{find}
pub use Rattle.rt_model.specs.Replies.{IsRefusal, OutcomeAnswers, Unless}
pub use Rattle.rt_model.specs.Slots.{IsSent, SlotAnswers, ReceiveAnswers, AnswersSlot}
use Rattle.rt_model.specs.Results.{may_abort}
use Rattle.rt_model.specs.Signals.{has_signaler, shown_reply, met_reply, stopped_reply}
use Rattle.rt_model.specs.State.{Phase, Blank, Making, Between, Visiting, Entered, Polling, Halted, Ending, Leaving, Turning, Cleaning, Closing, Crashed, Finished, Numbers, Announced, Stood, State}
use Rattle.rt_model.specs.Alarms.{is_set, skip_to, fires}
use Rattle.rt_model.specs.Causes.{is_late, from_running, ends_next}
use Rattle.rt_model.specs.Draws.{shuffled}
use Rattle.rt_model.specs.Effects.{left_of, visited, label_at, task_label, after}
use Rattle.rt_model.specs.Events.{process_task, task_fields, announced_by, IsOfCall}

-- this number was given to a task of this run
abbrev pub WasGiven : Numbers → ℕ → Type 0
WasGiven n task = (n.first ≤ task) × (task < n.next)

-- a task can be put on the node: it is live, and without one
abbrev pub is_free : TreeRecord → ℕ → Bool
is_free n node = is_live n node && not (is_some (task_on n node))

-- why a label is refused under that of a node
abbrev pub label_refusal : List ℕ → List ℕ → Option Error
label_refusal prefix label =
    if not (is_label label) then Some (Metric BadLabel)
    else if is_reserved (prefixed prefix label) then Some (Metric Reserved)
    else None

-- a child of a node that is live: refused for its label, or fresh, and ended exactly where the node is
abbrev pub ChildAnswers : State → ℕ → List ℕ → CallReply → Type 0
ChildAnswers s node label (NodeAt number ended) =
    (label_refusal (label_at s.labels node) label ≡ None) × (is_known s.stood.nodes number ≡ false) × (ended ≡ is_ended s.stood.nodes node)
ChildAnswers s node label (Refused error) = Some error ≡ label_refusal (label_at s.labels node) label
ChildAnswers s node label _ = ⊥

-- a spawn on a node that is free, while numbers are left
abbrev pub SpawnAnswers : State → ℕ → CallReply → Type 0
SpawnAnswers s node (TaskAt task number) =
    (task ≡ s.numbers.next) × (is_ended s.stood.nodes node ≡ false) × (is_known s.stood.nodes number ≡ false)
SpawnAnswers s node Closed = is_ended s.stood.nodes node ≡ true
SpawnAnswers s node _ = ⊥

-- a poll of a result
abbrev pub JoinAnswers : Option TaskResult → CallReply → Type 0
JoinAnswers None reply = IsRefusal UnknownToken reply
JoinAnswers (Some r) reply = OutcomeAnswers r.outcome reply

-- a poll of a signal or of a completion, by what it shows
abbrev pub ShownAs : {V : Type 0} → (Poll V → CallReply) → Result (Poll V) Error → CallReply → Type 0
ShownAs reply_of (Ok shown) reply = reply ≡ reply_of shown
ShownAs reply_of (Err error) reply = IsRefusal error reply

-- the reply is one that the call may have
abbrev pub Answers : State → Call → CallReply → Type 0
Answers s (Child node label) reply = Unless (not (is_live s.stood.nodes node)) UnknownToken (ChildAnswers s node label) reply
Answers s (CloseNode node) Done = is_live s.stood.nodes node ≡ true
Answers s (Spawn node) reply =
    Unless (not (is_free s.stood.nodes node)) UnknownToken
    (λ reply. Unless (leb (2 ^ 64 - 1) s.numbers.next) TooManyTasks (SpawnAnswers s node) reply)
    reply
Answers s (Abort task) Done = may_abort (find task s.stood.results) ≡ true
Answers s (AbortTask task) Done = is_some (find task s.marks) ≡ true
Answers s (AbortTask task) (Refused error) = (error ≡ UnknownToken) × (is_some (find task s.marks) ≡ false)
Answers s (Join task) reply = JoinAnswers (find task s.stood.results) reply
Answers s (GiveUp task) Done = is_some (find task s.stood.results) ≡ true
Answers s (WakeCall task) Done = WasGiven s.numbers task
Answers s (WakeCall task) (Refused error) = (error ≡ UnknownToken) × (WasGiven s.numbers task → ⊥)
Answers s (SleepPoll due) IsReady = due ≤ s.clock.time
Answers s (SleepPoll due) (PendingAt alarm) =
    (s.clock.time < due) × (due ≤ MAX_TIME) × ((alarm ≡ s.stood.alarms.count) ⊎ (is_set s.stood.alarms.alarms due alarm ≡ true))
Answers s (Slots call) reply = AnswersSlot s.stood.slots call reply
Answers s Signaler (SignalAt signal) = signal ≡ s.stood.signals.count
Answers s (CloneSignal signal) reply =
    Unless (not (is_some (find signal s.stood.signals.signals))) UnknownToken (λ reply. reply ≡ SignalAt s.stood.signals.count) reply
Answers s (Signal signaler value) Done = has_signaler s.stood.signals s.stood.stop signaler ≡ true
Answers s (SignalPoll signal) reply = ShownAs shown_reply (signal_answer s.stood.signals signal) reply
Answers s (SignalClose signal) Done = is_some (find signal s.stood.signals.signals) ≡ true
Answers s (SignalerClose signaler) Done = has_signaler s.stood.signals s.stood.stop signaler ≡ true
Answers s (CompletionPoll completion) reply = ShownAs met_reply (completion_answer s.stood.signals completion) reply
Answers s (CompletionClose completion) Done = is_some (find completion s.stood.signals.completions) ≡ true
Answers s (Stop value) (CompletionAt completion) = completion ≡ s.stood.signals.count
Answers s StoppedCall reply = reply ≡ stopped_reply (stopped_answer s.stood.signals s.stood.stop)
-- which number or bytes the generator decides, and which digest the events
Answers s NextU32 (Number number) = number < 2 ^ 32
Answers s NextU64 (Number number) = number < 2 ^ 64
Answers s (FillBytes len) (Bytes bytes) = length bytes ≡ len
Answers s Auditor (Bytes bytes) = length bytes ≡ 4
Answers s _ _ = ⊥

-- In a cleanup the task that is ended next makes the calls. Where none is left, a root makes them that was made and not taken in
abbrev pub IsEndedNext : Option ℕ → Option ℕ → Option ℕ → Type 0
IsEndedNext root None by = (root ≡ None) × (by ≡ None)
IsEndedNext root (Some task) by = by ≡ Some task

-- who makes the calls here: the maker, the task that is polled or ends in its visit, or in a cleanup the one that is ended next
abbrev pub CallsAt : Phase → Option ℕ → Option ℕ → Option ℕ → Type 0
CallsAt Making root next by = by ≡ None
CallsAt (Polling task left) root next by = by ≡ Some task
CallsAt (Ending task result left) root next by = by ≡ Some task
CallsAt (Closing cause) root next by = IsEndedNext root next by
CallsAt _ root next by = ⊥

abbrev pub MayCall : State → Option ℕ → Type 0
MayCall s by = CallsAt s.phase s.root (ends_next s.running s.root) by

-- an event may come here: that of a visit at its beginning, and where calls are made those of a call
abbrev pub MayEvent : Phase → State → List ℕ → List (List ℕ) → Type 0
MayEvent (Entered task left) s label fields = (label ≡ process_task) × (fields ≡ task_fields task (task_label s task))
MayEvent p s label fields = (by : Option ℕ) × CallsAt p s.root (ends_next s.running s.root) by × IsOfCall s.stood s.announced label fields

-- this task's end may be over
abbrev pub MayEnd : Phase → Option ℕ → ℕ → Type 0
MayEnd (Ending ended result left) next task = task ≡ ended
MayEnd (Closing cause) next task = next ≡ Some task
MayEnd _ next task = ⊥

-- a visit, or the end of a task, may have this answer
abbrev pub MayAnswer : State → ℕ → AnswerKind → Type 0
MayAnswer s task Pending = s.phase ≡ Polling task (left_of s.phase)
MayAnswer s task Ready = s.phase ≡ Polling task (left_of s.phase)
MayAnswer s task Panicked = s.phase ≡ Polling task (left_of s.phase)
MayAnswer s task Stopped = s.phase ≡ Halted task
MayAnswer s task NoMemory = s.phase ≡ Polling task (left_of s.phase)
MayAnswer s task Ended = MayEnd s.phase (ends_next s.running s.root) task

-- a round may begin here
abbrev pub MayRound : Phase → State → Type 0
MayRound Between s = is_late s.clock ≡ false
MayRound Turning s = (s.ready ≢ []) × (is_late s.clock ≡ false) × (fires s.stood.alarms.alarms s.clock.time ≡ None)
MayRound _ s = ⊥

-- a call with this reply takes these draws, which are before its events. None does so far
abbrev pub CallNeeds : Stood → Call → CallReply → List ℕ → Type 0
CallNeeds stood call reply draws = draws ≡ []

-- the crash takes these draws
abbrev pub CrashNeeds : Stood → Items Choice → List ℕ → Type 0
CrashNeeds stood choices draws = (choices ≡ []) × (draws ≡ [])

-- these draws and this one are the first that a call takes, or the crash
abbrev pub IsOfDraws : State → Option ℕ → ℕ → Type 0
IsOfDraws s by value =
    (s.announced ≡ [])
    × (call : Call) × (reply : CallReply) × (more : List ℕ) × CallNeeds s.stood call reply (s.draws ++ value ∷ more)

abbrev pub IsOfCrash : State → ℕ → Type 0
IsOfCrash s value = (s.running ≡ []) × (choices : Items Choice) × (more : List ℕ) × CrashNeeds s.stood choices (s.draws ++ value ∷ more)

-- a number may be drawn here: for the order of a round, where calls are made for one of those, and in a cleanup for the crash
abbrev pub MayDraw : Phase → State → ℕ → Type 0
MayDraw Between s value = MayRound Between s
MayDraw Turning s value = MayRound Turning s
MayDraw (Closing cause) s value =
    ((by : Option ℕ) × IsEndedNext s.root (ends_next s.running s.root) by × IsOfDraws s by value) ⊎ IsOfCrash s value
MayDraw p s value = (by : Option ℕ) × CallsAt p s.root (ends_next s.running s.root) by × IsOfDraws s by value

-- the cleanup may begin here. A run that is out of memory is cut off between its parts
abbrev pub MayClose : Phase → Type 0
MayClose Blank = ⊥
MayClose (Entered task left) = ⊥
MayClose (Polling task left) = ⊥
MayClose (Halted task) = ⊥
MayClose (Ending task result left) = ⊥
MayClose (Leaving task result left) = ⊥
MayClose (Cleaning cause) = ⊥
MayClose (Closing cause) = ⊥
MayClose (Crashed cause) = ⊥
MayClose (Finished cause) = ⊥
MayClose _ = Unit {0}

abbrev pub MayCrash : Phase → List ℕ → Type 0
MayCrash (Closing cause) running = running ≡ []
MayCrash _ running = ⊥

abbrev pub MayFinish : Phase → FinishCause → Type 0
MayFinish (Crashed reached) cause = (cause ≡ OutOfMemory) ⊎ (reached ≡ Some cause)
MayFinish _ cause = ⊥

-- the node ends here: that of a task that leaves, or in the cleanup node 0
abbrev pub MayEndNode : Phase → List (ℕ × Mark) → ℕ → Type 0
MayEndNode (Leaving task result left) ms node = option_map (λ m. m.node) (find task ms) ≡ Some node
MayEndNode (Cleaning cause) ms node = node ≡ 0
MayEndNode _ ms node = ⊥

abbrev pub MayFree : State → Entry → Type 0
MayFree s (Start next now deadline cycle) =
    (s.phase ≡ Blank)
    × (next ≡ s.clock.fixed.first)
    × (now ≡ s.clock.fixed.start)
    × (deadline ≡ s.clock.fixed.deadline)
    × (cycle ≡ s.clock.fixed.cycle)
MayFree s (CallEntry by call reply) = MayCall s by × Answers s call reply × (s.announced ≡ announced_by s.stood call reply)
MayFree s (Event label fields) = MayEvent s.phase s label fields
MayFree s (Wake task) = ⊥
MayFree s (Draw value) = MayDraw s.phase s value
MayFree s (Root task) = (s.phase ≡ Making) × (task ≡ s.numbers.next) × (task < 2 ^ 64 - 1) × (s.announced ≡ [])
MayFree s (Round order) = MayRound s.phase s × IsPermutation s.ready order
MayFree s (Visit task) =
    (s.phase ≡ Visiting (left_of s.phase))
    × (from_running s.running (left_of s.phase) ≡ task ∷ drop 1 (from_running s.running (left_of s.phase)))
MayFree s (Answer task kind) = MayAnswer s task kind × (s.announced ≡ [])
MayFree s (NodeEnd node) = MayEndNode s.phase s.marks node
MayFree s (Advance now) =
    (s.phase ≡ Visiting (left_of s.phase))
    × (from_running s.running (left_of s.phase) ≡ [])
    × (now ≡ s.clock.time + s.clock.fixed.cycle)
    × (now ≤ MAX_TIME)
MayFree s (Skip now) = (s.phase ≡ Turning) × (skip_to s.ready s.stood.alarms.alarms s.clock.time ≡ Some now)
MayFree s (Fire alarm) = (s.phase ≡ Turning) × (is_late s.clock ≡ false) × (fires s.stood.alarms.alarms s.clock.time ≡ Some alarm)
MayFree s Cleanup = MayClose s.phase × (s.announced ≡ [])
MayFree s (Crash choices) = MayCrash s.phase s.running × (choices ≡ []) × (s.announced ≡ [])
MayFree s (Finish cause) = MayFinish s.phase cause

-- the entry may come next. The wakes of an event come first, exactly these
abbrev pub May : State → Entry → Type 0
May s (Wake task) = s.owed ≡ task ∷ drop 1 s.owed
May s e = (s.owed ≡ []) × MayFree s e

-- each of the entries may come at its place
abbrev pub IsLawful : State → List Entry → Type 0
IsLawful s [] = Unit {0}
IsLawful s (e ∷ es) = May s e × IsLawful (after s e) es

-- A round's order is the ready list as its draws shuffle it, one draw for each place but the first, and no more. This is what decides among
-- the permutations
abbrev pub RoundNeeds : Phase → State → List ℕ → Type 0
RoundNeeds Between s draws = length draws + 1 < length s.ready
RoundNeeds Turning s draws = length draws + 1 < length s.ready
RoundNeeds _ s draws = Unit {0}

-- what an entry needs of the draws since the last entry that took some
abbrev pub Needs : State → Entry → List ℕ → Type 0
Needs s (Draw value) draws = RoundNeeds s.phase s draws
Needs s (Round order) draws = (order ≡ shuffled s.ready draws) × (length draws ≡ length s.ready - 1)
Needs s (CallEntry by call reply) draws = CallNeeds s.stood call reply draws
Needs s (Crash choices) draws = CrashNeeds s.stood choices draws
Needs s _ draws = Unit {0}

abbrev pub IsDrawn : State → Entry → Type 0
IsDrawn s e = Needs s e s.draws

abbrev pub AreDrawn : State → List Entry → Type 0
AreDrawn s [] = Unit {0}
AreDrawn s (e ∷ es) = IsDrawn s e × AreDrawn (after s e) es
