-- That the entries of a run may come where they stand, found out by computing: a proof for an example, or none, which says nothing.
use Rattle.rt_laws.proofs.Prelude.{◌≡◌, ◌≢◌, ◌⊎◌, inl, inr, ℕ, ℤ, pos, negsuc, ◌≤◌, ◌<◌, ◌+◌, ◌-◌, ◌^◌, List, [], ◌∷◌, ◌++◌, drop, get_or, length, Option, Some, None, Result, Ok, Err, is_some, option_map, Bool, true, false, not, eqb, ltb, leb, refl, arith, IsPermutation, w32, cast_signed, from_be_bytes, option_zip, option_or, eqb-true, ltb-true, leb-true, IsPermutation-refl, Error, UnknownToken, TooManyTasks, HasExited, ErrClosed, Aborted, Metric, BadLabel, Reserved, Poll, MAX_TIME, Call, Child, CloseNode, Spawn, Abort, AbortTask, WakeCall, Join, GiveUp, SleepPoll, Signaler, CloneSignal, Signal, SignalPoll, SignalClose, SignalerClose, CompletionPoll, CompletionClose, Stop, StoppedCall, NextU32, NextU64, FillBytes, Auditor, Slots, Slot, SlotSend, SlotClose, SlotPoll, SlotGiveUp, AbortWait, CallReply, Done, NodeAt, TaskAt, Closed, SlotAt, SignalAt, CompletionAt, ClosedWith, StillPending, PendingAt, IsReady, Number, Bytes, Refused, AnswerKind, Stopped, NoMemory, Ended, FinishCause, Entry, Start, CallEntry, Event, Wake, Draw, Root, Round, Visit, Answer, NodeEnd, Advance, Skip, Fire, Cleanup, Crash, Finish, is_live, is_known, is_ended, signal_answer, completion_answer, stopped_answer, round-draws, Begin, Mark, Outcome, Open, There, Exited, IsClosed, TaskResult, find, may_abort, has_signaler, shown_reply, met_reply, stopped_reply, Phase, Blank, Making, Between, Visiting, Entered, Polling, Halted, Ending, Leaving, Turning, Over, Cleaning, Closing, Crashed, Numbers, Announced, State, begun, Stood, is_set, skip_to, fires, is_late, from_running, ends_next, left_of, label_at, task_label, after, process_task, task_fields, announced_by, IsOfCall, WasGiven, IsRefusal, OutcomeAnswers, is_free, label_refusal, ChildAnswers, SpawnAnswers, Unless, JoinAnswers, IsSent, SlotAnswers, ReceiveAnswers, ShownAs, Answers, IsEndedNext, CallsAt, MayEvent, MayEnd, MayAnswer, MayRound, MayClose, MayCrash, MayFinish, MayEndNode, MayFree, May, IsLawful}
use Rattle.rt_base.specs.declared.error.Error.TheVariants.{Timeout}
use Rattle.rt_audit.specs.declared.reply.CallReply.TheVariants.{Value}
use Rattle.rt_audit.specs.declared.finish.FinishCause.TheVariants as cause

unwrapped : {P : Type 0} (o : Option P) → is_some o ≡ true → P
unwrapped None e = absurd (cc)
unwrapped (Some p) e = p

abbrev three : {P Q R : Type 0} → Option P → Option Q → Option R → Option (P × Q × R)
three (Some p) (Some q) (Some r) = Some (p, q, r)
three _ _ _ = None

abbrev four : {P Q R S : Type 0} → Option P → Option Q → Option R → Option S → Option (P × Q × R × S)
four (Some p) (Some q) (Some r) (Some s) = Some (p, q, r, s)
four _ _ _ _ = None

abbrev five : {P Q R S T : Type 0} → Option P → Option Q → Option R → Option S → Option T → Option (P × Q × R × S × T)
five (Some p) (Some q) (Some r) (Some s) (Some t) = Some (p, q, r, s, t)
five _ _ _ _ _ = None

abbrev either : {P Q : Type 0} → Option P → Option Q → Option (P ⊎ Q)
either (Some p) q = Some (inl p)
either None None = None
either None (Some q) = Some (inr q)

abbrev if_true : {P : Type 0} (b : Bool) → (b ≡ true → P) → Option P
if_true true f = Some (f refl)
if_true false f = None

abbrev pub is_true : (b : Bool) → Option (b ≡ true)
is_true true = Some refl
is_true false = None

abbrev pub is_false : (b : Bool) → Option (b ≡ false)
is_false true = None
is_false false = Some refl

-- numbers, texts and what may be none

abbrev pub same : (x y : ℕ) → Option (x ≡ y)
same x y = if_true (eqb x y) (eqb-true x y)

abbrev below : (x y : ℕ) → Option (x < y)
below x y = if_true (ltb x y) (ltb-true x y)

abbrev at_most : (x y : ℕ) → Option (x ≤ y)
at_most x y = if_true (leb x y) (leb-true x y)

abbrev same_bool : (x y : Bool) → Option (x ≡ y)
same_bool true true = Some refl
same_bool false false = Some refl
same_bool _ _ = None

module _ {X : Type 0} (same_item : (x y : X) → Option (x ≡ y)) where
  abbrev cons : (x y : X) (xs ys : List X) → Option (x ≡ y) → Option (xs ≡ ys) → Option (x ∷ xs ≡ y ∷ ys)
  cons x y xs ys None f = None
  cons x y xs ys (Some e) None = None
  cons x y xs ys (Some e) (Some f) = Some (rw (e, f) refl)

  abbrev pub same_list : (xs ys : List X) → Option (xs ≡ ys)
  same_list [] [] = Some refl
  same_list (x ∷ xs) (y ∷ ys) = cons x y xs ys (same_item x y) (same_list xs ys)
  same_list _ _ = None

  abbrev some : (x y : X) → Option (x ≡ y) → Option (Some x ≡ Some y)
  some x y None = None
  some x y (Some e) = Some (rw e refl)

  abbrev same_option : (x y : Option X) → Option (x ≡ y)
  same_option None None = Some refl
  same_option (Some x) (Some y) = some x y (same_item x y)
  same_option _ _ = None

abbrev pub none_left : {X : Type 0} (xs : List X) → Option (xs ≡ [])
none_left [] = Some refl
none_left (x ∷ xs) = None

pub none_there : {X : Type 0} (x : X) (xs : List X) → x ∷ xs ≢ []
none_there x xs e = cc

abbrev some_left : {X : Type 0} (xs : List X) → Option (xs ≢ [])
some_left [] = None
some_left (x ∷ xs) = Some (none_there x xs)

-- errors and causes

abbrev pub same_error : (x y : Error) → Option (x ≡ y)
same_error UnknownToken UnknownToken = Some refl
same_error TooManyTasks TooManyTasks = Some refl
same_error HasExited HasExited = Some refl
same_error ErrClosed ErrClosed = Some refl
same_error Aborted Aborted = Some refl
same_error Timeout Timeout = Some refl
same_error (Metric BadLabel) (Metric BadLabel) = Some refl
same_error (Metric Reserved) (Metric Reserved) = Some refl
same_error _ _ = None

abbrev same_cause : (x y : FinishCause) → Option (x ≡ y)
same_cause cause.Completed cause.Completed = Some refl
same_cause cause.Timeout cause.Timeout = Some refl
same_cause cause.Stalled cause.Stalled = Some refl
same_cause cause.TaskPanicked cause.TaskPanicked = Some refl
same_cause cause.TimeOverflow cause.TimeOverflow = Some refl
same_cause cause.TooManyTasks cause.TooManyTasks = Some refl
same_cause cause.NoMemory cause.NoMemory = Some refl
same_cause _ _ = None

-- replies

abbrev refusal : (error : Error) (reply : CallReply) → Option (IsRefusal error reply)
refusal error (Refused other) = same_error other error
refusal error _ = None

abbrev unless : (b : Bool) (error : Error) (P : CallReply → Type 0) → ((reply : CallReply) → Option (P reply)) → (reply : CallReply) → Option (Unless b error P reply)
unless true error P otherwise reply = refusal error reply
unless false error P otherwise reply = otherwise reply

abbrev outcome : (o : Outcome) (reply : CallReply) → Option (OutcomeAnswers o reply)
outcome (Open waits) StillPending = Some refl
outcome There IsReady = Some refl
outcome Exited reply = refusal HasExited reply
outcome IsClosed reply = refusal ErrClosed reply
outcome _ _ = None

abbrev join : (r : Option TaskResult) (reply : CallReply) → Option (JoinAnswers r reply)
join None reply = refusal UnknownToken reply
join (Some r) reply = outcome r.outcome reply

abbrev sent : (reply : CallReply) → Option (IsSent reply)
sent IsReady = Some tt
sent (Refused error) = Some tt
sent _ = None

abbrev slot : (o : Outcome) (reply : CallReply) → Option (SlotAnswers o reply)
slot (Open waits) reply = outcome (Open waits) reply
slot There reply = sent reply
slot Exited reply = outcome Exited reply
slot IsClosed reply = outcome IsClosed reply

abbrev receive : (r : Option TaskResult) (reply : CallReply) → Option (ReceiveAnswers r reply)
receive None reply = refusal UnknownToken reply
receive (Some r) reply = unless r.aborted Aborted (SlotAnswers r.outcome) (slot r.outcome) reply

abbrev child : (s : State) (node : ℕ) (label : List ℕ) (reply : CallReply) → Option (ChildAnswers s node label reply)
child s node label (NodeAt number ended) =
    three (same_option same_error (label_refusal (label_at s.labels node) label) None) (is_false (is_known s.stood.nodes number)) (same_bool ended (is_ended s.stood.nodes node))
child s node label (Refused error) = same_option same_error (Some error) (label_refusal (label_at s.labels node) label)
child s node label _ = None

abbrev spawn : (s : State) (node : ℕ) (reply : CallReply) → Option (SpawnAnswers s node reply)
spawn s node (TaskAt task number) =
    three (same task s.numbers.next) (is_false (is_ended s.stood.nodes node)) (is_false (is_known s.stood.nodes number))
spawn s node Closed = is_true (is_ended s.stood.nodes node)
spawn s node _ = None

abbrev given : (n : Numbers) (task : ℕ) → Option (WasGiven n task)
given n task = option_zip (at_most n.first task) (below task n.next)

abbrev not_given : (n : Numbers) (task : ℕ) → Option (WasGiven n task → ⊥)
not_given n task = if_true (leb n.next task) (λ e. let past = leb-true n.next task e in λ given. let low = given.1 in omega (arith, past, low))

pub same_at : (f : ℕ → CallReply) (x y : ℕ) → x ≡ y → f x ≡ f y
same_at f x y e = rw e refl

abbrev so_at : (f : ℕ → CallReply) (x y : ℕ) → Option (x ≡ y) → Option (f x ≡ f y)
so_at f x y None = None
so_at f x y (Some e) = Some (same_at f x y e)

abbrev is_signal : (count : ℕ) (reply : CallReply) → Option (reply ≡ SignalAt count)
is_signal count (SignalAt number) = so_at (λ n. SignalAt n) number count (same number count)
is_signal count _ = None

pub same_pos : (n m : ℕ) → n ≡ m → pos n ≡ pos m
same_pos n m e = rw e refl

pub same_neg : (n m : ℕ) → n ≡ m → negsuc n ≡ negsuc m
same_neg n m e = rw e refl

abbrev so_pos : (n m : ℕ) → Option (n ≡ m) → Option (pos n ≡ pos m)
so_pos n m None = None
so_pos n m (Some e) = Some (same_pos n m e)

abbrev so_neg : (n m : ℕ) → Option (n ≡ m) → Option (negsuc n ≡ negsuc m)
so_neg n m None = None
so_neg n m (Some e) = Some (same_neg n m e)

abbrev pub same_value_of : (v w : ℤ) → Option (v ≡ w)
same_value_of (pos n) (pos m) = so_pos n m (same n m)
same_value_of (negsuc n) (negsuc m) = so_neg n m (same n m)
same_value_of _ _ = None

pub valued_so : (f : ℤ → CallReply) (v w : ℤ) → v ≡ w → f v ≡ f w
valued_so f v w e = rw e refl

abbrev so_valued : (f : ℤ → CallReply) (v w : ℤ) → Option (v ≡ w) → Option (f v ≡ f w)
so_valued f v w None = None
so_valued f v w (Some e) = Some (valued_so f v w e)

-- the replies of polls
abbrev same_reply : (x y : CallReply) → Option (x ≡ y)
same_reply (SignalAt n) (SignalAt m) = so_at (λ n. SignalAt n) n m (same n m)
same_reply (Value v) (Value w) = so_valued (λ v. Value v) v w (same_value_of v w)
same_reply (ClosedWith v) (ClosedWith w) = so_valued (λ v. ClosedWith v) v w (same_value_of v w)
same_reply (SlotAt n) (SlotAt m) = so_at (λ n. SlotAt n) n m (same n m)
same_reply StillPending StillPending = Some refl
same_reply Done Done = Some refl
same_reply IsReady IsReady = Some refl
same_reply _ _ = None

abbrev shown : {V : Type 0} (reply_of : Poll V → CallReply) → ((x y : CallReply) → Option (x ≡ y)) → (answer : Result (Poll V) Error) (reply : CallReply) → Option (ShownAs reply_of answer reply)
shown reply_of eq (Ok value) reply = eq reply (reply_of value)
shown reply_of eq (Err error) reply = refusal error reply

abbrev answers : (s : State) (call : Call) (reply : CallReply) → Option (Answers s call reply)
answers s (Child node label) reply = unless (not (is_live s.stood.nodes node)) UnknownToken (ChildAnswers s node label) (child s node label) reply
answers s (CloseNode node) Done = is_true (is_live s.stood.nodes node)
answers s (Spawn node) reply =
    unless (not (is_free s.stood.nodes node)) UnknownToken
    (λ reply. Unless (leb (2 ^ 64 - 1) s.numbers.next) TooManyTasks (SpawnAnswers s node) reply)
    (unless (leb (2 ^ 64 - 1) s.numbers.next) TooManyTasks (SpawnAnswers s node) (spawn s node))
    reply
answers s (Abort task) Done = is_true (may_abort (find task s.stood.results))
answers s (AbortTask task) Done = is_true (is_some (find task s.marks))
answers s (AbortTask task) (Refused error) = option_zip (same_error error UnknownToken) (is_false (is_some (find task s.marks)))
answers s (Join task) reply = join (find task s.stood.results) reply
answers s (GiveUp task) Done = is_true (is_some (find task s.stood.results))
answers s (WakeCall task) Done = given s.numbers task
answers s (WakeCall task) (Refused error) = option_zip (same_error error UnknownToken) (not_given s.numbers task)
answers s (SleepPoll due) IsReady = at_most due s.clock.time
answers s (SleepPoll due) (PendingAt alarm) =
    three (below s.clock.time due) (at_most due MAX_TIME) (either (same alarm s.stood.alarms.count) (is_true (is_set s.stood.alarms.alarms due alarm)))
answers s (Slots Slot) reply = same_reply reply (SlotAt s.stood.slots.count)
answers s (Slots (SlotSend number)) Done = option_zip (Some refl) (is_true (is_some (find number s.stood.slots.senders)))
answers s (Slots (SlotClose number)) Done = option_zip (Some refl) (is_true (is_some (find number s.stood.slots.senders)))
answers s (Slots (SlotPoll number)) reply = receive (find number s.stood.slots.results) reply
answers s (Slots (SlotGiveUp number)) Done = option_zip (Some refl) (is_true (is_some (find number s.stood.slots.results)))
answers s (Slots (AbortWait number)) Done = option_zip (Some refl) (is_true (may_abort (find number s.stood.slots.results)))
answers s Signaler (SignalAt number) = same number s.stood.signals.count
answers s (CloneSignal signal) reply =
    unless (not (is_some (find signal s.stood.signals.signals))) UnknownToken (λ reply. reply ≡ SignalAt s.stood.signals.count) (is_signal s.stood.signals.count) reply
answers s (Signal signaler value) Done = is_true (has_signaler s.stood.signals s.stood.stop signaler)
answers s (SignalPoll signal) reply = shown shown_reply same_reply (signal_answer s.stood.signals signal) reply
answers s (SignalClose signal) Done = is_true (is_some (find signal s.stood.signals.signals))
answers s (SignalerClose signaler) Done = is_true (has_signaler s.stood.signals s.stood.stop signaler)
answers s (CompletionPoll completion) reply = shown met_reply same_reply (completion_answer s.stood.signals completion) reply
answers s (CompletionClose completion) Done = is_true (is_some (find completion s.stood.signals.completions))
answers s (Stop value) (CompletionAt number) = same number s.stood.signals.count
answers s StoppedCall reply = same_reply reply (stopped_reply (stopped_answer s.stood.signals s.stood.stop))
answers s NextU32 (Number number) = below number (2 ^ 32)
answers s NextU64 (Number number) = below number (2 ^ 64)
answers s (FillBytes len) (Bytes bytes) = same (length bytes) len
answers s Auditor (Bytes bytes) = same (length bytes) 4
answers s _ _ = None

-- phases

abbrev ended_next : (root next by : Option ℕ) → Option (IsEndedNext root next by)
ended_next root None by = option_zip (same_option same root None) (same_option same by None)
ended_next root (Some task) by = same_option same by (Some task)

abbrev calls : (p : Phase) (root next by : Option ℕ) → Option (CallsAt p root next by)
calls Making root next by = same_option same by None
calls (Polling task left) root next by = same_option same by (Some task)
calls (Ending task result left) root next by = same_option same by (Some task)
calls (Closing of) root next by = ended_next root next by
calls _ root next by = None

abbrev is_blank : (p : Phase) → Option (p ≡ Blank)
is_blank Blank = Some refl
is_blank _ = None

abbrev is_making : (p : Phase) → Option (p ≡ Making)
is_making Making = Some refl
is_making _ = None

abbrev is_visiting : (p : Phase) → Option (p ≡ Visiting (left_of p))
is_visiting (Visiting left) = Some refl
is_visiting _ = None

abbrev is_turning : (p : Phase) → Option (p ≡ Turning)
is_turning Turning = Some refl
is_turning _ = None

abbrev polling : (other task : ℕ) (left : List ℕ) → Option (other ≡ task) → Option (Polling other left ≡ Polling task left)
polling other task left None = None
polling other task left (Some e) = Some (rw e refl)

abbrev is_polling : (p : Phase) (task : ℕ) → Option (p ≡ Polling task (left_of p))
is_polling (Polling other left) task = polling other task left (same other task)
is_polling _ task = None

abbrev halted : (other task : ℕ) → Option (other ≡ task) → Option (Halted other ≡ Halted task)
halted other task None = None
halted other task (Some e) = Some (rw e refl)

abbrev is_halted : (p : Phase) (task : ℕ) → Option (p ≡ Halted task)
is_halted (Halted other) task = halted other task (same other task)
is_halted _ task = None

abbrev ends : (p : Phase) (next : Option ℕ) (task : ℕ) → Option (MayEnd p next task)
ends (Ending other result left) next task = same task other
ends (Closing of) next task = same_option same next (Some task)
ends _ next task = None

abbrev answered : (s : State) (task : ℕ) (kind : AnswerKind) → Option (MayAnswer s task kind)
answered s task Stopped = is_halted s.phase task
answered s task Ended = ends s.phase (ends_next s.running s.root) task
answered s task _ = is_polling s.phase task

abbrev rounds : (p : Phase) (s : State) → Option (MayRound p s)
rounds Between s = is_false (is_late s.clock)
rounds Turning s = three (some_left s.ready) (is_false (is_late s.clock)) (same_option same (fires s.stood.alarms.alarms s.clock.time) None)
rounds _ s = None

abbrev closes : (p : Phase) → Option (MayClose p)
closes Making = Some tt
closes Between = Some tt
closes Turning = Some tt
closes (Visiting left) = Some tt
closes (Over of) = Some tt
closes _ = None

abbrev crashes : (p : Phase) (running : List ℕ) → Option (MayCrash p running)
crashes (Closing of) running = none_left running
crashes _ running = None

abbrev finishes : (p : Phase) (end : FinishCause) → Option (MayFinish p end)
finishes (Crashed reached) end = either (same_cause end cause.NoMemory) (same_option same_cause reached (Some end))
finishes _ end = None

abbrev node_ends : (p : Phase) (ms : List (ℕ × Mark)) (node : ℕ) → Option (MayEndNode p ms node)
node_ends (Leaving task result left) ms node = same_option same (option_map (λ (m : Mark). m.node) (find task ms)) (Some node)
node_ends (Cleaning of) ms node = same node 0
node_ends _ ms node = None

abbrev in_place : (ready order : List ℕ) → Option (ready ≡ order) → Option (IsPermutation ready order)
in_place ready order None = None
in_place ready order (Some e) = Some (rw e (IsPermutation-refl order))

abbrev ends_by : (root next : Option ℕ) → Option ((by : Option ℕ) × IsEndedNext root next by)
ends_by None None = Some (None, (refl, refl))
ends_by (Some task) None = None
ends_by root (Some task) = Some (Some task, refl)

pub announced_so : (x y : Announced) → x.label ≡ y.label → x.fields ≡ y.fields → x ≡ y
announced_so x y e f = rw (e, f) refl

abbrev so_announced : (x y : Announced) → Option (x.label ≡ y.label) → Option (x.fields ≡ y.fields) → Option (x ≡ y)
so_announced x y (Some e) (Some f) = Some (announced_so x y e f)
so_announced x y _ _ = None

abbrev same_event : (x y : Announced) → Option (x ≡ y)
same_event x y = so_announced x y (same_list same x.label y.label) (same_list (same_list same) x.fields y.fields)

-- behind these events this one is the next of this call, whose reply doesn't matter
abbrev event_by : (stood : Stood) (announced : List Announced) (label : List ℕ) (fields : List (List ℕ)) (call : Call) → Option (IsOfCall stood announced label fields)
event_by stood announced label fields call =
    option_map
    (λ (h : announced_by stood call Done ≡ announced ++ record { label = label; fields = fields } ∷ []). (call, Done, h))
    (same_list same_event (announced_by stood call Done) (announced ++ record { label = label; fields = fields } ∷ []))

-- the value of a stop whose event has these fields
abbrev stop_told : List (List ℕ) → ℤ
stop_told fields = cast_signed w32 (from_be_bytes w32 (get_or fields 0 []))

abbrev event_of : (stood : Stood) (announced : List Announced) (label : List ℕ) (fields : List (List ℕ)) → Option (IsOfCall stood announced label fields)
event_of stood announced label fields =
    option_or (event_by stood announced label fields (Stop (stop_told fields)))
    (option_or (event_by stood announced label fields StoppedCall)
    (option_or (event_by stood announced label fields NextU32)
    (option_or (event_by stood announced label fields NextU64)
    (event_by stood announced label fields (FillBytes 0)))))

-- an event of a visit, or one of a call that comes here
abbrev event : (p : Phase) (s : State) (label : List ℕ) (fields : List (List ℕ)) → Option (MayEvent p s label fields)
event (Entered task left) s label fields =
    option_zip (same_list same label process_task) (same_list (same_list same) fields (task_fields task (task_label s task)))
event Making s label fields = option_map (λ (o : IsOfCall s.stood s.announced label fields). (None, refl, o)) (event_of s.stood s.announced label fields)
event (Polling task left) s label fields =
    option_map (λ (o : IsOfCall s.stood s.announced label fields). (Some task, refl, o)) (event_of s.stood s.announced label fields)
event (Ending task result left) s label fields =
    option_map (λ (o : IsOfCall s.stood s.announced label fields). (Some task, refl, o)) (event_of s.stood s.announced label fields)
event (Closing of) s label fields =
    option_map
    (λ (p : ((by : Option ℕ) × IsEndedNext s.root (ends_next s.running s.root) by) × IsOfCall s.stood s.announced label fields). (p.0.0, p.0.1, p.1))
    (option_zip (ends_by s.root (ends_next s.running s.root)) (event_of s.stood s.announced label fields))
event _ s label fields = None

-- entries

abbrev free : (s : State) (e : Entry) → Option (MayFree s e)
free s (Start next now deadline cycle) =
    five (is_blank s.phase) (same next s.clock.fixed.first) (same now s.clock.fixed.start) (same_option same deadline s.clock.fixed.deadline) (same cycle s.clock.fixed.cycle)
free s (CallEntry by call reply) = three (calls s.phase s.root (ends_next s.running s.root) by) (answers s call reply) (same_list same_event s.announced (announced_by s.stood call reply))
free s (Event label fields) = event s.phase s label fields
free s (Wake task) = None
free s (Draw value) = option_map (round-draws s.phase s value) (rounds s.phase s)
free s (Root task) = four (is_making s.phase) (same task s.numbers.next) (below task (2 ^ 64 - 1)) (none_left s.announced)
free s (Round order) = option_zip (rounds s.phase s) (in_place s.ready order (same_list same s.ready order))
free s (Visit task) =
    option_zip (is_visiting s.phase) (same_list same (from_running s.running (left_of s.phase)) (task ∷ drop 1 (from_running s.running (left_of s.phase))))
free s (Answer task kind) = option_zip (answered s task kind) (none_left s.announced)
free s (NodeEnd node) = node_ends s.phase s.marks node
free s (Advance now) =
    four (is_visiting s.phase) (none_left (from_running s.running (left_of s.phase))) (same now (s.clock.time + s.clock.fixed.cycle)) (at_most now MAX_TIME)
free s (Skip now) = option_zip (is_turning s.phase) (same_option same (skip_to s.ready s.stood.alarms.alarms s.clock.time) (Some now))
free s (Fire alarm) =
    three (is_turning s.phase) (is_false (is_late s.clock)) (same_option same (fires s.stood.alarms.alarms s.clock.time) (Some alarm))
free s Cleanup = option_zip (closes s.phase) (none_left s.announced)
free s (Crash choices) = three (crashes s.phase s.running) (none_left choices) (none_left s.announced)
free s (Finish end) = finishes s.phase end

abbrev may : (s : State) (e : Entry) → Option (May s e)
may s (Start next now deadline cycle) = option_zip (none_left s.owed) (free s (Start next now deadline cycle))
may s (CallEntry by call reply) = option_zip (none_left s.owed) (free s (CallEntry by call reply))
may s (Event label fields) = option_zip (none_left s.owed) (free s (Event label fields))
may s (Wake task) = same_list same s.owed (task ∷ drop 1 s.owed)
may s (Draw value) = option_zip (none_left s.owed) (free s (Draw value))
may s (Root task) = option_zip (none_left s.owed) (free s (Root task))
may s (Round order) = option_zip (none_left s.owed) (free s (Round order))
may s (Visit task) = option_zip (none_left s.owed) (free s (Visit task))
may s (Answer task kind) = option_zip (none_left s.owed) (free s (Answer task kind))
may s (NodeEnd node) = option_zip (none_left s.owed) (free s (NodeEnd node))
may s (Advance now) = option_zip (none_left s.owed) (free s (Advance now))
may s (Skip now) = option_zip (none_left s.owed) (free s (Skip now))
may s (Fire alarm) = option_zip (none_left s.owed) (free s (Fire alarm))
may s Cleanup = option_zip (none_left s.owed) (free s Cleanup)
may s (Crash choices) = option_zip (none_left s.owed) (free s (Crash choices))
may s (Finish end) = option_zip (none_left s.owed) (free s (Finish end))

abbrev pub may_all : (s : State) (x : List Entry) → Option (IsLawful s x)
may_all s [] = Some tt
may_all s (e ∷ x) = option_zip (may s e) (may_all (after s e) x)

-- a journal that is lawful, as computing it tells
pub lawful : (b : Begin) (x : List Entry) → is_some (may_all (begun b) x) ≡ true → IsLawful (begun b) x
lawful b x e = unwrapped (may_all (begun b) x) e
