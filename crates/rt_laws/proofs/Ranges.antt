-- What a lawful list keeps to: the range of time, and who calls where.
use Rattle.rt_laws.proofs.Prelude.{◌≡◌, ◌≢◌, ◌≤◌, ℕ, List, [], ◌∷◌, ◌++◌, Option, Some, None, Bool, true, false, ◌&&◌, refl, arith, All, AllByRecursion, All-from_recursion, MAX_TIME, Call, SleepPoll, CallReply, PendingAt, AnswerKind, Pending, Ready, Panicked, Stopped, NoMemory, Ended, FinishCause, Completed, TaskPanicked, Entry, Start, CallEntry, Event, Root, Round, Visit, Answer, NodeEnd, Advance, Fire, Cleanup, Crash, Finish, Alarm, AlarmList, Begin, Outcome, There, Exited, is_ended, find, is_some_number, is_flagged, State, Phase, Blank, Making, Entered, Polling, Halted, Ending, Leaving, Cleaning, Closing, begun, slept, ends_next, reached, after, after_all, is_settled, alarms_called, answered, entered, entered_by, node_ended, cleans, leaves, ended, left_pending, finished, left_of, Answers, CallsAt, IsEndedNext, May, MayClose, IsLawful, time-within, IsInVisit}
use Rattle.rt_laws.proofs.Clock.{lawful-front, lawful-tail}
use Rattle.rt_laws.proofs.Each.{Each, each-with, each-waking, each-drop}

-- each alarm is due by the last moment
abbrev AreDue : List Alarm → Type 0
AreDue alarms = Each (λ at told. at ≤ MAX_TIME) alarms

due-slept : (a : AlarmList) (by : Option ℕ) (due number : ℕ) → due ≤ MAX_TIME → AreDue a.alarms → AreDue (slept a by due number).alarms
due-slept a by due number h k =
    grind (arith, each-with (λ at told. at ≤ MAX_TIME) (record { due = due; number = a.count; task = by }) a.alarms h k, each-waking (λ at told. at ≤ MAX_TIME) number by a.alarms k)

due-called : (s : State) (by : Option ℕ) (call : Call) (reply : CallReply) → Answers s call reply → AreDue s.stood.alarms.alarms → AreDue (alarms_called s.stood.alarms by call reply).alarms
due-called s by (SleepPoll due) (PendingAt number) h k = due-slept s.stood.alarms by due number h.1 k
due-called s by _ _ h k = k

due-all : (s : State) (x : List Entry) → IsLawful s x → AreDue s.stood.alarms.alarms → AreDue (after_all s x).stood.alarms.alarms
unfolding after
due-all s [] l k = k
due-all s (e ∷ x) l k = due-all (after s e) x l.1 (due-after s e l.0 k)
  where
    due-after : (s : State) (e : Entry) → May s e → AreDue s.stood.alarms.alarms → AreDue (after s e).stood.alarms.alarms
    due-after s (CallEntry by call reply) m k = due-called s by call reply m.1.1 k
    due-after s (Fire alarm) m k = each-drop (λ at told. at ≤ MAX_TIME) s.stood.alarms.alarms k
    due-after s Cleanup m k = tt
    due-after s _ m k = k

pub run_due : (b : Begin) (x : List Entry) → IsLawful (begun b) x → All (λ (a : Alarm). a.due ≤ MAX_TIME) (after_all (begun b) x).stood.alarms.alarms
unfolding begun
run_due b x l = All-from_recursion (λ (a : Alarm). a.due ≤ MAX_TIME) (after_all (begun b) x).stood.alarms.alarms (due-all (begun b) x l tt)

pub run_in_range : (b : Begin) (x : List Entry) → b.start ≤ MAX_TIME → IsLawful (begun b) x → (after_all (begun b) x).clock.time ≤ MAX_TIME
run_in_range b x h l = time-within b x h l

-- a sleep that waits is due by the last moment
pub run_asked : (b : Begin) (x y : List Entry) (by : Option ℕ) (due alarm : ℕ) → IsLawful (begun b) (x ++ CallEntry by (SleepPoll due) (PendingAt alarm) ∷ y) → due ≤ MAX_TIME
run_asked b x y by due alarm l = (lawful-tail (begun b) x (CallEntry by (SleepPoll due) (PendingAt alarm) ∷ y) l).0.1.1.1

-- a cleanup doesn't begin in a visit
outside-close : (p : Phase) → MayClose p → IsInVisit p → ⊥
outside-close (Entered task left) m v = m
outside-close (Polling task left) m v = m
outside-close (Halted task) m v = m
outside-close (Ending task result left) m v = m
outside-close (Leaving task result left) m v = m
outside-close _ m v = v

pub run_outside : (b : Begin) (x y : List Entry) → IsLawful (begun b) (x ++ Cleanup ∷ y) → IsInVisit (after_all (begun b) x).phase → ⊥
run_outside b x y l = outside-close (after_all (begun b) x).phase (lawful-tail (begun b) x (Cleanup ∷ y) l).0.1.0

-- before the root is taken in there is none
abbrev IsBefore : Phase → Option ℕ → Type 0
IsBefore Blank root = root ≡ None
IsBefore Making root = root ≡ None
IsBefore _ root = Unit {0}

before-by : (stopped flagged : Bool) (task : ℕ) (left : List ℕ) (root : Option ℕ) → IsBefore (entered_by stopped flagged task left) root
before-by true flagged task left root = tt
before-by false true task left root = tt
before-by false false task left root = tt

before-entered : (s : State) (p : Phase) (root : Option ℕ) → IsBefore p root → IsBefore (entered s p) root
before-entered s (Entered task left) root k = before-by (is_some_number task s.root && s.panicked) (is_flagged (find task s.marks)) task left root
before-entered s _ root k = k

before-node : (p : Phase) (root : Option ℕ) → IsBefore p root → IsBefore (node_ended p) root
before-node (Leaving task result left) root k = tt
before-node (Cleaning cause) root k = tt
before-node _ root k = k

before-cleans : (over : Bool) (cause : Option FinishCause) (root : Option ℕ) → IsBefore (cleans over cause) root
before-cleans true cause root = tt
before-cleans false cause root = tt

before-leaves : (settles : Bool) (task : ℕ) (result : Option Outcome) (left : List ℕ) (root : Option ℕ) → IsBefore (leaves settles task result left) root
before-leaves true task result left root = tt
before-leaves false task result left root = tt

before-ended : (settles : Bool) (p : Phase) (root : Option ℕ) → IsBefore p root → IsBefore (ended settles p) root
before-ended settles (Ending task result left) root k = before-leaves settles task result left root
before-ended settles _ root k = k

before-pending : (flagged : Bool) (task : ℕ) (left : List ℕ) (root : Option ℕ) → IsBefore (left_pending flagged task left) root
before-pending true task left root = tt
before-pending false task left root = tt

before-finished : (is_root : Bool) (cause : FinishCause) (result : Outcome) (task : ℕ) (left : List ℕ) (root : Option ℕ) → IsBefore (finished is_root cause result task left) root
before-finished true cause result task left root = tt
before-finished false cause result task left root = tt

before-answered : (s : State) (task : ℕ) (kind : AnswerKind) (root : Option ℕ) → IsBefore s.phase root → IsBefore (answered s task kind) root
before-answered s task Pending root k = before-pending (is_flagged (find task s.marks)) task (left_of s.phase) root
before-answered s task Ready root k = before-finished (is_some_number task s.root) Completed There task (left_of s.phase) root
before-answered s task Panicked root k = before-finished (is_some_number task s.root) TaskPanicked Exited task (left_of s.phase) root
before-answered s task Stopped root k = tt
before-answered s task NoMemory root k = tt
before-answered s task Ended root k = before-ended (is_settled s task) s.phase root k

before-after : (s : State) (e : Entry) → May s e → IsBefore s.phase s.root → IsBefore (after s e).phase (after s e).root
unfolding after
before-after s (Start next now deadline cycle) m k = rw m.1.0 at k
before-after s (Event label fields) m k = before-entered s s.phase s.root k
before-after s (Root task) m k = tt
before-after s (Round order) m k = tt
before-after s (Visit task) m k = tt
before-after s (Answer task kind) m k = before-answered s task kind s.root k
before-after s (NodeEnd node) m k = before-node s.phase s.root k
before-after s (Advance now) m k = tt
before-after s Cleanup m k = before-cleans (is_ended s.stood.nodes 0) (reached s) s.root
before-after s (Crash choices) m k = tt
before-after s (Finish cause) m k = tt
before-after s _ m k = k

before-all : (s : State) (x : List Entry) → IsBefore s.phase s.root → IsLawful s x → IsBefore (after_all s x).phase (after_all s x).root
before-all s [] k l = k
before-all s (e ∷ x) k l = before-all (after s e) x (before-after s e l.0 k) l.1

runs-before : (b : Begin) (x : List Entry) → IsLawful (begun b) x → IsBefore (after_all (begun b) x).phase (after_all (begun b) x).root
unfolding begun
runs-before b x l = before-all (begun b) x refl l

ended-by : (root next : Option ℕ) → IsEndedNext root next None → root ≡ None
ended-by root None m = m.0
ended-by root (Some task) m = absurd (cc)

called-by : (p : Phase) (root next : Option ℕ) → IsBefore p root → CallsAt p root next None → root ≡ None
called-by Making root next k m = k
called-by (Polling task left) root next k m = absurd (cc)
called-by (Ending task result left) root next k m = absurd (cc)
called-by (Closing cause) root next k m = ended-by root next m
called-by _ root next k m = absurd m

-- nobody calls but where no root was taken in
pub run_rootless : (b : Begin) (x y : List Entry) (call : Call) (reply : CallReply) → IsLawful (begun b) (x ++ CallEntry None call reply ∷ y) → (after_all (begun b) x).root ≡ None
unfolding begun
run_rootless b x y call reply l =
    let s = after_all (begun b) x in
    let k = runs-before b x (lawful-front (begun b) x (CallEntry None call reply ∷ y) l) in
    called-by s.phase s.root (ends_next s.running s.root) k (lawful-tail (begun b) x (CallEntry None call reply ∷ y) l).0.1.0

-- behind the root's entry nobody calls
abbrev IsOfSomebody : Entry → Type 0
IsOfSomebody e = (call : Call) (reply : CallReply) → e ≢ CallEntry None call reply

rooted-after : (s : State) (e : Entry) → s.root ≢ None → (after s e).root ≢ None
unfolding after
rooted-after s (Root task) n = λ z. cc
rooted-after s _ n = n

rooted-entry : (s : State) (e : Entry) → May s e → IsBefore s.phase s.root → s.root ≢ None → IsOfSomebody e
rooted-entry s (CallEntry None call reply) m k n = absurd (n (called-by s.phase s.root (ends_next s.running s.root) k m.1.0))
rooted-entry s _ m k n = λ call reply z. cc

rooted-all : (s : State) (y : List Entry) → IsLawful s y → IsBefore s.phase s.root → s.root ≢ None → AllByRecursion IsOfSomebody y
rooted-all s [] l k n = tt
rooted-all s (e ∷ y) l k n =
    (rooted-entry s e l.0 k n, rooted-all (after s e) y l.1 (before-after s e l.0 k) (rooted-after s e n))

pub run_rooted : (b : Begin) (x y : List Entry) (task : ℕ) → IsLawful (begun b) (x ++ Root task ∷ y) → All IsOfSomebody y
unfolding begun after
run_rooted b x y task l =
    let s = after_all (begun b) x in
    let t = lawful-tail (begun b) x (Root task ∷ y) l in
    All-from_recursion IsOfSomebody y (rooted-all (after s (Root task)) y t.1 tt (λ z. cc))
