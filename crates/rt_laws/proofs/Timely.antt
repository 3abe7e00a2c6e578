-- Outside a clock step no alarm is overdue, and in a clock step none by a cycle.
use Rattle.rt_laws.proofs.Prelude.{◌≡◌, ◌≢◌, ◌≤◌, ◌<◌, ◌+◌, ◌&&◌, ◌-◌, ◌↔◌, ℕ, List, [], ◌∷◌, ◌++◌, Option, Some, None, false, refl, arith, All, Contains, Bool, true, All-weaker, Call, SleepPoll, CallReply, PendingAt, IsReady, AnswerKind, Pending, Ready, Panicked, Stopped, NoMemory, Ended, FinishCause, Completed, TaskPanicked, Entry, Start, CallEntry, Event, Root, Round, Visit, Answer, NodeEnd, Advance, Skip, Fire, Cleanup, Crash, Finish, Alarm, AlarmList, Begin, Outcome, There, Exited, is_ended, is_flagged, State, Phase, Between, Entered, Ending, Leaving, Turning, Cleaning, Closing, Crashed, begun, slept, skip_to, ahead, fires, after, after_all, alarms_called, is_settled, answered, entered, entered_by, node_ended, cleans, leaves, ended, left_pending, finished, left_of, May, MayAnswer, MayRound, MayCrash, MayFinish, Answers, IsLawful, is_late, reached, IsEarliest, is_some_number, find}
use Rattle.rt_laws.proofs.Clock.{lawful-front, lawful-tail}
use Rattle.rt_laws.proofs.Order.{NoneBefore, none-before, none-sooner, AreOrdered, order-after, run_order}
use Rattle.rt_laws.proofs.Each.{each-with, each-waking, each-drop}

-- no alarm that is set is due before this moment
abbrev pub earliest_due : Phase → ℕ → ℕ → ℕ
earliest_due Turning time cycle = time - (cycle - 1)
earliest_due _ time cycle = time + 1

abbrev pub IsTimelyAt : Phase → State → Type 0
IsTimelyAt p s = NoneBefore (earliest_due p s.clock.time s.clock.fixed.cycle) s.stood.alarms.alarms

abbrev pub IsTimely : State → Type 0
IsTimely s = IsTimelyAt s.phase s

at-most-next : (p : Phase) (time cycle : ℕ) → earliest_due p time cycle ≤ time + 1
at-most-next Turning time cycle = omega arith
at-most-next _ time cycle = omega arith

none-slept : (m : ℕ) (a : AlarmList) (by : Option ℕ) (due number : ℕ) → m ≤ due → NoneBefore m a.alarms → NoneBefore m (slept a by due number).alarms
none-slept m a by due number h k = grind (arith, each-with (λ at told. m ≤ at) (record { due = due; number = a.count; task = by }) a.alarms h k, each-waking (λ at told. m ≤ at) number by a.alarms k)

none-called : (s : State) (m : ℕ) (by : Option ℕ) (call : Call) (reply : CallReply) → m ≤ s.clock.time + 1 → Answers s call reply → NoneBefore m s.stood.alarms.alarms → NoneBefore m (alarms_called s.stood.alarms by call reply).alarms
none-called s m by (SleepPoll due) (PendingAt number) h a k = let l = a.0 in none-slept m s.stood.alarms by due number (omega arith) k
none-called s m by _ _ h a k = k

-- where nothing fires, each alarm lies ahead
none-fires : (alarms : List Alarm) (time : ℕ) → AreOrdered alarms → fires alarms time ≡ None → NoneBefore (time + 1) alarms
none-fires [] time o h = tt
none-fires (a ∷ alarms) time o h =
    let l : time < a.due = grind arith in
    (omega arith, none-sooner (time + 1) a.due alarms (omega arith) o.0)

none-ahead : (alarms : List Alarm) (time now : ℕ) → AreOrdered alarms → ahead alarms time ≡ Some now → NoneBefore now alarms
none-ahead [] time now o h = tt
none-ahead (a ∷ alarms) time now o h =
    let e : a.due ≡ now = grind arith in
    (omega arith, none-sooner now a.due alarms (omega arith) o.0)

none-skipped : (ready : List ℕ) (alarms : List Alarm) (time now : ℕ) → AreOrdered alarms → skip_to ready alarms time ≡ Some now → NoneBefore now alarms
none-skipped [] alarms time now o h = none-ahead alarms time now o h
none-skipped (k ∷ ready) alarms time now o h = absurd (cc)

-- nothing is overdue
abbrev AreAhead : State → Type 0
AreAhead s = NoneBefore (s.clock.time + 1) s.stood.alarms.alarms

timely-by : (stopped flagged : Bool) (task : ℕ) (left : List ℕ) (s : State) → AreAhead s → IsTimelyAt (entered_by stopped flagged task left) s
timely-by true flagged task left s k = k
timely-by false true task left s k = k
timely-by false false task left s k = k

timely-entered : (p : Phase) (s : State) → IsTimelyAt p s → IsTimelyAt (entered s p) s
timely-entered (Entered task left) s k = timely-by (is_some_number task s.root && s.panicked) (is_flagged (find task s.marks)) task left s k
timely-entered _ s k = k

timely-node : (p : Phase) (s : State) → IsTimelyAt p s → IsTimelyAt (node_ended p) s
timely-node (Cleaning cause) s k = k
timely-node (Leaving task result left) s k = k
timely-node _ s k = k

timely-round : (p : Phase) (s : State) → AreOrdered s.stood.alarms.alarms → MayRound p s → IsTimelyAt p s → NoneBefore (s.clock.time + 1) s.stood.alarms.alarms
timely-round Between s o m k = k
timely-round Turning s o m k = none-fires s.stood.alarms.alarms s.clock.time o m.2
timely-round _ s o m k = absurd m

timely-leaves : (settles : Bool) (task : ℕ) (result : Option Outcome) (left : List ℕ) (s : State) → AreAhead s → IsTimelyAt (leaves settles task result left) s
timely-leaves true task result left s k = k
timely-leaves false task result left s k = k

timely-ended : (settles : Bool) (p : Phase) (s : State) → IsTimelyAt p s → IsTimelyAt (ended settles p) s
timely-ended settles (Ending task result left) s k = timely-leaves settles task result left s k
timely-ended settles _ s k = k

timely-pending : (flagged : Bool) (task : ℕ) (left : List ℕ) (s : State) → AreAhead s → IsTimelyAt (left_pending flagged task left) s
timely-pending true task left s k = k
timely-pending false task left s k = k

timely-finished : (is_root : Bool) (cause : FinishCause) (result : Outcome) (task : ℕ) (left : List ℕ) (s : State) → AreAhead s → IsTimelyAt (finished is_root cause result task left) s
timely-finished true cause result task left s k = k
timely-finished false cause result task left s k = k

timely-answered : (s : State) (task : ℕ) (kind : AnswerKind) → MayAnswer s task kind → IsTimely s → IsTimelyAt (answered s task kind) s
timely-answered s task Pending m k = timely-pending (is_flagged (find task s.marks)) task (left_of s.phase) s (rw m at k)
timely-answered s task Ready m k = timely-finished (is_some_number task s.root) Completed There task (left_of s.phase) s (rw m at k)
timely-answered s task Panicked m k = timely-finished (is_some_number task s.root) TaskPanicked Exited task (left_of s.phase) s (rw m at k)
timely-answered s task Stopped m k = rw m at k
timely-answered s task NoMemory m k = rw m at k
timely-answered s task Ended m k = timely-ended (is_settled s task) s.phase s k

timely-crash : (p : Phase) (s : State) (running : List ℕ) → MayCrash p running → IsTimelyAt p s → NoneBefore (s.clock.time + 1) s.stood.alarms.alarms
timely-crash (Closing cause) s running m k = k
timely-crash _ s running m k = absurd m

timely-finish : (p : Phase) (s : State) (cause : FinishCause) → MayFinish p cause → IsTimelyAt p s → NoneBefore (s.clock.time + 1) s.stood.alarms.alarms
timely-finish (Crashed reached) s cause m k = k
timely-finish _ s cause m k = absurd m

timely-cleans : (over : Bool) (cause : Option FinishCause) (s : State) → s.stood.alarms.alarms ≡ [] → IsTimelyAt (cleans over cause) s
timely-cleans true cause s none = rw none tt
timely-cleans false cause s none = rw none tt

timely-after : (s : State) (e : Entry) → AreOrdered s.stood.alarms.alarms → May s e → IsTimely s → IsTimely (after s e)
unfolding after
timely-after s (Start next now deadline cycle) o m k = rw m.1.0 at k
timely-after s (CallEntry by call reply) o m k =
    none-called s (earliest_due s.phase s.clock.time s.clock.fixed.cycle) by call reply (at-most-next s.phase s.clock.time s.clock.fixed.cycle) m.1.1 k
timely-after s (Event label fields) o m k = timely-entered s.phase s k
timely-after s (Root task) o m k = rw m.1.0 at k
timely-after s (Round order) o m k = timely-round s.phase s o m.1.0 k
timely-after s (Visit task) o m k = rw m.1.0 at k
timely-after s (Answer task kind) o m k = timely-answered s task kind m.1.0 k
timely-after s (NodeEnd node) o m k = timely-node s.phase s k
timely-after s (Advance now) o m k =
    let e = m.1.2 in
    let b : NoneBefore (s.clock.time + 1) s.stood.alarms.alarms = rw m.1.0 at k in
    none-sooner (now - (s.clock.fixed.cycle - 1)) (s.clock.time + 1) s.stood.alarms.alarms (omega arith) b
timely-after s (Skip now) o m k =
    rw m.1.0 (none-sooner (now - (s.clock.fixed.cycle - 1)) now s.stood.alarms.alarms (omega arith) (none-skipped s.ready s.stood.alarms.alarms s.clock.time now o m.1.1))
timely-after s (Fire alarm) o m k = each-drop (λ at told. earliest_due s.phase s.clock.time s.clock.fixed.cycle ≤ at) s.stood.alarms.alarms k
timely-after s Cleanup o m k = timely-cleans (is_ended s.stood.nodes 0) (reached s) (after s Cleanup) refl
timely-after s (Crash choices) o m k = timely-crash s.phase s s.running m.1.0 k
timely-after s (Finish cause) o m k = timely-finish s.phase s cause m.1 k
timely-after s _ o m k = k

timely-all : (s : State) (x : List Entry) → AreOrdered s.stood.alarms.alarms → IsLawful s x → IsTimely s → IsTimely (after_all s x)
timely-all s [] o l k = k
timely-all s (e ∷ x) o l k = timely-all (after s e) x (order-after s e o) l.1 (timely-after s e o l.0 k)

pub run_timely : (b : Begin) (x : List Entry) → IsLawful (begun b) x → IsTimely (after_all (begun b) x)
unfolding begun
run_timely b x l = timely-all (begun b) x tt l tt

pub outside : (p : Phase) (s : State) → p ≢ Turning → IsTimelyAt p s → NoneBefore (s.clock.time + 1) s.stood.alarms.alarms
outside Turning s h k = absurd (h refl)
outside _ s h k = k

-- outside a clock step each alarm that is set lies ahead
pub run_ahead : (b : Begin) (x : List Entry) → IsLawful (begun b) x → (after_all (begun b) x).phase ≢ Turning → All (λ (a : Alarm). (after_all (begun b) x).clock.time < a.due) (after_all (begun b) x).stood.alarms.alarms
run_ahead b x l h =
    let s = after_all (begun b) x in
    let all = none-before (s.clock.time + 1) s.stood.alarms.alarms (outside s.phase s h (run_timely b x l)) in
    All-weaker (λ (a : Alarm). s.clock.time + 1 ≤ a.due) (λ (a : Alarm). s.clock.time < a.due) (λ a k. omega arith) s.stood.alarms.alarms all

-- a sleep is ready exactly from its due time on
exactly-ready : (s : State) (due : ℕ) (reply : CallReply) → Answers s (SleepPoll due) reply → (reply ≡ IsReady) ↔ (due ≤ s.clock.time)
exactly-ready s due IsReady a = ((λ h. a), (λ h. refl))
exactly-ready s due (PendingAt alarm) a = let l = a.0 in ((λ h. absurd (cc)), (λ h. absurd (omega arith)))
exactly-ready s due _ a = absurd a

pub run_ready : (b : Begin) (x y : List Entry) (by : Option ℕ) (due : ℕ) (reply : CallReply) → IsLawful (begun b) (x ++ CallEntry by (SleepPoll due) reply ∷ y) → (reply ≡ IsReady) ↔ (due ≤ (after_all (begun b) x).clock.time)
run_ready b x y by due reply l = exactly-ready (after_all (begun b) x) due reply (lawful-tail (begun b) x (CallEntry by (SleepPoll due) reply ∷ y) l).0.1.1

-- an alarm that goes off is the earliest, and due by less than a cycle
abbrev pub FiresOnTime : List Alarm → ℕ → ℕ → ℕ → Type 0
FiresOnTime alarms time cycle number = (a : Alarm) × Contains alarms a × (a.number ≡ number) × IsEarliest alarms a.due × (a.due ≤ time) × (0 < cycle → time < a.due + cycle)

fires-due : (alarms : List Alarm) (time cycle number : ℕ) → AreOrdered alarms → fires alarms time ≡ Some number → NoneBefore (time - (cycle - 1)) alarms → FiresOnTime alarms time cycle number
fires-due [] time cycle number o h k = absurd (cc)
fires-due (a ∷ alarms) time cycle number o h k =
    let p : (a.number ≡ number) × (a.due ≤ time) = grind arith in
    let l = k.0 in
    let is : Contains (a ∷ alarms) a = (0, omega arith, refl) in
    let earliest : IsEarliest (a ∷ alarms) a.due = ((a, is, refl), none-before a.due (a ∷ alarms) (omega arith, o.0)) in
    (a, is, p.0, earliest, p.1, (λ c. omega arith))

module _ (b : Begin) (x y : List Entry) (number : ℕ) (l : IsLawful (begun b) (x ++ Fire number ∷ y)) where
  pub run_fire : FiresOnTime (after_all (begun b) x).stood.alarms.alarms (after_all (begun b) x).clock.time (after_all (begun b) x).clock.fixed.cycle number
  run_fire =
      let s = after_all (begun b) x in
      let m = (lawful-tail (begun b) x (Fire number ∷ y) l).0.1 in
      let k : IsTimely s = run_timely b x (lawful-front (begun b) x (Fire number ∷ y) l) in
      let k2 : NoneBefore (s.clock.time - (s.clock.fixed.cycle - 1)) s.stood.alarms.alarms = rw m.0 at k in
      fires-due s.stood.alarms.alarms s.clock.time s.clock.fixed.cycle number (run_order b x) m.2 k2

  pub run_fire_early : is_late (after_all (begun b) x).clock ≡ false
  run_fire_early = (lawful-tail (begun b) x (Fire number ∷ y) l).0.1.1
