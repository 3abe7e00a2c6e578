-- What stands where a run has reached its cause, and where tasks are visited.
use Rattle.rt_laws.proofs.Prelude.{◌≡◌, ◌≢◌, ◌≤◌, ℕ, List, [], ◌∷◌, ◌++◌, drop, Option, Some, None, Bool, true, false, leb, ◌-◌, ◌^◌, ◌&&◌, refl, Contains, leb-true, AnswerKind, Pending, Ready, Panicked, Stopped, NoMemory, Ended, FinishCause, Completed, TaskPanicked, Timeout, Stalled, TimeOverflow, OutOfMemory, Entry, Start, Event, Root, Round, Visit, Answer, NodeEnd, Advance, Skip, Cleanup, Crash, Finish, Alarm, is_ended, Outcome, There, Exited, is_nil, is_some_number, find, is_flagged, Begin, State, Phase, Making, Between, Visiting, Entered, Polling, Ending, Leaving, Turning, Over, Cleaning, Closing, Crashed, Finished, Clock, begun, skip_to, fires, is_late, overflows, from_running, turning_cause, where_true, cause_at, reached, after, after_all, is_settled, answered, entered, entered_by, node_ended, cleans, leaves, ended, left_pending, finished, left_of, May, MayAnswer, MayRound, MayClose, IsLawful}
use Rattle.rt_audit.specs.declared.finish.FinishCause.TheVariants.{TooManyTasks}
use Rattle.rt_laws.proofs.Clock.{lawful-front, lawful-tail}
use Rattle.rt_laws.proofs.Endings.{run_cause}
use Rattle.rt_laws.proofs.Rounds.{contains-from_has}
use Rattle.rt_laws.proofs.Tasks.{from-runs}

-- what ends a round is the root's answer, or that memory was lacking
abbrev IsRoundCause : FinishCause → Type 0
IsRoundCause Completed = Unit {0}
IsRoundCause TaskPanicked = Unit {0}
IsRoundCause OutOfMemory = Unit {0}
IsRoundCause _ = ⊥

-- and tasks are visited before the deadline
abbrev pub IsSoundAt : Phase → Clock → Type 0
IsSoundAt (Visiting left) c = is_late c ≡ false
IsSoundAt (Entered task left) c = is_late c ≡ false
IsSoundAt (Polling task left) c = is_late c ≡ false
IsSoundAt (Ending task result left) c = is_late c ≡ false
IsSoundAt (Leaving task result left) c = is_late c ≡ false
IsSoundAt (Over cause) c = IsRoundCause cause
IsSoundAt _ c = Unit {0}

abbrev pub IsSound : State → Type 0
IsSound s = IsSoundAt s.phase s.clock

sound-by : (stopped flagged : Bool) (task : ℕ) (left : List ℕ) (c : Clock) → is_late c ≡ false → IsSoundAt (entered_by stopped flagged task left) c
sound-by true flagged task left c k = tt
sound-by false true task left c k = k
sound-by false false task left c k = k

sound-entered : (s : State) (p : Phase) (c : Clock) → IsSoundAt p c → IsSoundAt (entered s p) c
sound-entered s (Entered task left) c k = sound-by (is_some_number task s.root && s.panicked) (is_flagged (find task s.marks)) task left c k
sound-entered s _ c k = k

sound-node : (p : Phase) (c : Clock) → IsSoundAt p c → IsSoundAt (node_ended p) c
sound-node (Cleaning cause) c k = tt
sound-node (Leaving task result left) c k = k
sound-node _ c k = k

sound-cleans : (over : Bool) (cause : Option FinishCause) (c : Clock) → IsSoundAt (cleans over cause) c
sound-cleans true cause c = tt
sound-cleans false cause c = tt

sound-round : (p : Phase) (s : State) → MayRound p s → is_late s.clock ≡ false
sound-round Between s m = m
sound-round Turning s m = m.1
sound-round _ s m = absurd m

sound-leaves : (settles : Bool) (task : ℕ) (result : Option Outcome) (left : List ℕ) (c : Clock) → is_late c ≡ false → IsSoundAt (leaves settles task result left) c
sound-leaves true task result left c k = k
sound-leaves false task result left c k = k

sound-ended : (settles : Bool) (p : Phase) (c : Clock) → IsSoundAt p c → IsSoundAt (ended settles p) c
sound-ended settles (Ending task result left) c k = sound-leaves settles task result left c k
sound-ended settles _ c k = k

sound-pending : (flagged : Bool) (task : ℕ) (left : List ℕ) (c : Clock) → is_late c ≡ false → IsSoundAt (left_pending flagged task left) c
sound-pending true task left c k = k
sound-pending false task left c k = k

sound-finished : (is_root : Bool) (cause : FinishCause) (result : Outcome) (task : ℕ) (left : List ℕ) (c : Clock) → IsRoundCause cause → is_late c ≡ false → IsSoundAt (finished is_root cause result task left) c
sound-finished true cause result task left c h k = h
sound-finished false cause result task left c h k = k

sound-answered : (s : State) (task : ℕ) (kind : AnswerKind) → MayAnswer s task kind → IsSound s → IsSoundAt (answered s task kind) s.clock
sound-answered s task Pending m k = sound-pending (is_flagged (find task s.marks)) task (left_of s.phase) s.clock (rw m at k)
sound-answered s task Ready m k = sound-finished (is_some_number task s.root) Completed There task (left_of s.phase) s.clock tt (rw m at k)
sound-answered s task Panicked m k = sound-finished (is_some_number task s.root) TaskPanicked Exited task (left_of s.phase) s.clock tt (rw m at k)
sound-answered s task Stopped m k = tt
sound-answered s task NoMemory m k = tt
sound-answered s task Ended m k = sound-ended (is_settled s task) s.phase s.clock k

sound-after : (s : State) (e : Entry) → May s e → IsSound s → IsSound (after s e)
unfolding after
sound-after s (Start next now deadline cycle) m k = tt
sound-after s (Event label fields) m k = sound-entered s s.phase s.clock k
sound-after s (Root task) m k = tt
sound-after s (Round order) m k = sound-round s.phase s m.1.0
sound-after s (Visit task) m k = rw m.1.0 at k
sound-after s (Answer task kind) m k = sound-answered s task kind m.1.0 k
sound-after s (NodeEnd node) m k = sound-node s.phase s.clock k
sound-after s (Advance now) m k = tt
sound-after s (Skip now) m k = rw m.1.0 tt
sound-after s Cleanup m k = sound-cleans (is_ended s.stood.nodes 0) (reached s) s.clock
sound-after s (Crash choices) m k = tt
sound-after s (Finish cause) m k = tt
sound-after s _ m k = k

sound-all : (s : State) (x : List Entry) → IsLawful s x → IsSound s → IsSound (after_all s x)
sound-all s [] l k = k
sound-all s (e ∷ x) l k = sound-all (after s e) x l.1 (sound-after s e l.0 k)

run_sound : (b : Begin) (x : List Entry) → IsLawful (begun b) x → IsSound (after_all (begun b) x)
unfolding begun
run_sound b x l = sound-all (begun b) x l tt

-- a task is visited while it runs, and before the deadline
module _ (b : Begin) (x y : List Entry) (task : ℕ) (l : IsLawful (begun b) (x ++ Visit task ∷ y)) where
  pub run_visited : Contains (after_all (begun b) x).running task
  run_visited =
      let s = after_all (begun b) x in
      let m = (lawful-tail (begun b) x (Visit task ∷ y) l).0.1 in
      contains-from_has task s.running (from-runs s.running (left_of s.phase) (drop 1 (from_running s.running (left_of s.phase))) task m.1)

  pub run_visited_early : is_late (after_all (begun b) x).clock ≡ false
  run_visited_early =
      let s = after_all (begun b) x in
      let m = (lawful-tail (begun b) x (Visit task ∷ y) l).0.1 in
      let k = run_sound b x (lawful-front (begun b) x (Visit task ∷ y) l) in
      let early : IsSoundAt (Visiting (left_of s.phase)) s.clock = rw m.0 at k in
      early

where-true : (b : Bool) (cause other : FinishCause) → where_true b cause ≡ Some other → (b ≡ true) × (cause ≡ other)
where-true true cause other h = (refl, (cc))
where-true false cause other h = absurd (cc)

both-true : (a b : Bool) → (a && b) ≡ true → b ≡ true
both-true true b h = h
both-true false b h = absurd (cc)

stalled-turning : (skip : Option ℕ) (late : Bool) (firing : Option ℕ) (ready : List ℕ) (alarms : List Alarm) → turning_cause skip late firing ready alarms ≡ Some Stalled → (ready ≡ []) × (alarms ≡ [])
stalled-turning (Some due) late firing ready alarms h = absurd (cc)
stalled-turning None true firing ready alarms h = absurd (cc)
stalled-turning None false (Some alarm) ready alarms h = absurd (cc)
stalled-turning None false None [] [] h = (refl, refl)
stalled-turning None false None [] (a ∷ alarms) h = absurd (cc)
stalled-turning None false None (k ∷ ready) set h = absurd (cc)

late-turning : (skip : Option ℕ) (late : Bool) (firing : Option ℕ) (ready : List ℕ) (alarms : List Alarm) → turning_cause skip late firing ready alarms ≡ Some Timeout → late ≡ true
late-turning (Some due) late firing ready alarms h = absurd (cc)
late-turning None true firing ready alarms h = refl
late-turning None false (Some alarm) ready alarms h = absurd (cc)
late-turning None false None [] [] h = absurd (cc)
late-turning None false None [] (a ∷ alarms) h = absurd (cc)
late-turning None false None (k ∷ ready) set h = absurd (cc)

-- a clock step reaches no other cause than these two
no-turning : (cause : FinishCause) (skip : Option ℕ) (late : Bool) (firing : Option ℕ) (ready : List ℕ) (alarms : List Alarm) → cause ≢ Stalled → cause ≢ Timeout → turning_cause skip late firing ready alarms ≡ Some cause → ⊥
no-turning cause (Some due) late firing ready alarms n k h = cc
no-turning cause None true firing ready alarms n k h = k (cc)
no-turning cause None false (Some alarm) ready alarms n k h = cc
no-turning cause None false None [] [] n k h = n (cc)
no-turning cause None false None [] (a ∷ alarms) n k h = cc
no-turning cause None false None (j ∷ ready) set n k h = cc

-- what each cause needs
abbrev Needs : FinishCause → Phase → State → Type 0
Needs Stalled p s = (s.ready ≡ []) × (s.stood.alarms.alarms ≡ [])
Needs Timeout p s = is_late s.clock ≡ true
Needs TimeOverflow p s = overflows s.clock ≡ true
Needs TooManyTasks p s = (p ≡ Making) × (leb (2 ^ 64 - 1) s.numbers.next ≡ true)
Needs TaskPanicked p s = p ≡ Over TaskPanicked
Needs _ p s = Unit {0}

needs-round : (cause : FinishCause) (s : State) → IsRoundCause cause → Needs cause (Over cause) s
needs-round Stalled s h = absurd h
needs-round Timeout s h = absurd h
needs-round TimeOverflow s h = absurd h
needs-round TooManyTasks s h = absurd h
needs-round TaskPanicked s h = refl
needs-round _ s h = tt

abbrev Turns : FinishCause → State → Type 0
Turns cause s = cause_at Turning s ≡ Some cause

turns-not : (cause : FinishCause) (s : State) → cause ≢ Stalled → cause ≢ Timeout → Turns cause s → ⊥
turns-not cause s n k h = no-turning cause (skip_to s.ready s.stood.alarms.alarms s.clock.time) (is_late s.clock) (fires s.stood.alarms.alarms s.clock.time) s.ready s.stood.alarms.alarms n k h

needs-turning : (cause : FinishCause) (s : State) → Turns cause s → Needs cause Turning s
needs-turning Stalled s h = stalled-turning (skip_to s.ready s.stood.alarms.alarms s.clock.time) (is_late s.clock) (fires s.stood.alarms.alarms s.clock.time) s.ready s.stood.alarms.alarms h
needs-turning Timeout s h = late-turning (skip_to s.ready s.stood.alarms.alarms s.clock.time) (is_late s.clock) (fires s.stood.alarms.alarms s.clock.time) s.ready s.stood.alarms.alarms h
needs-turning TimeOverflow s h = absurd (turns-not TimeOverflow s (λ e. cc) (λ e. cc) h)
needs-turning TooManyTasks s h = absurd (turns-not TooManyTasks s (λ e. cc) (λ e. cc) h)
needs-turning TaskPanicked s h = absurd (turns-not TaskPanicked s (λ e. cc) (λ e. cc) h)
needs-turning _ s h = tt

needs-at : (p : Phase) (cause : FinishCause) (s : State) → IsSoundAt p s.clock → MayClose p → cause_at p s ≡ Some cause → Needs cause p s
needs-at Making cause s k m h = let w = where-true (leb (2 ^ 64 - 1) s.numbers.next) TooManyTasks cause h in rw (← w.1) (refl, w.0)
needs-at Between cause s k m h = let w = where-true (is_late s.clock) Timeout cause h in rw (← w.1) w.0
needs-at (Visiting left) cause s k m h =
    let w = where-true (is_nil (from_running s.running left) && overflows s.clock) TimeOverflow cause h in
    rw (← w.1) (both-true (is_nil (from_running s.running left)) (overflows s.clock) w.0)
needs-at Turning cause s k m h = needs-turning cause s h
needs-at (Over of) cause s k m h = let e : of ≡ cause = cc in rw (← e) (needs-round of s k)
needs-at (Cleaning of) cause s k m h = absurd m
needs-at (Closing of) cause s k m h = absurd m
needs-at (Crashed of) cause s k m h = absurd m
needs-at (Finished of) cause s k m h = absurd m
needs-at _ cause s k m h = absurd (cc)

needs : (b : Begin) (x y : List Entry) (cause : FinishCause) → IsLawful (begun b) (x ++ Cleanup ∷ y) → (after_all (begun b) (x ++ Cleanup ∷ y)).phase ≡ Finished cause → cause ≢ OutOfMemory → Needs cause (after_all (begun b) x).phase (after_all (begun b) x)
needs b x y cause l h n =
    let s = after_all (begun b) x in
    needs-at s.phase cause s (run_sound b x (lawful-front (begun b) x (Cleanup ∷ y) l)) (lawful-tail (begun b) x (Cleanup ∷ y) l).0.1.0 (run_cause b x y cause l h n)

module _ (b : Begin) (x y : List Entry) (l : IsLawful (begun b) (x ++ Cleanup ∷ y)) where
  pub run_stalled : (after_all (begun b) (x ++ Cleanup ∷ y)).phase ≡ Finished Stalled → ((after_all (begun b) x).ready ≡ []) × ((after_all (begun b) x).stood.alarms.alarms ≡ [])
  run_stalled h = needs b x y Stalled l h (λ e. cc)

  pub run_late : (after_all (begun b) (x ++ Cleanup ∷ y)).phase ≡ Finished Timeout → is_late (after_all (begun b) x).clock ≡ true
  run_late h = needs b x y Timeout l h (λ e. cc)

  pub run_overflows : (after_all (begun b) (x ++ Cleanup ∷ y)).phase ≡ Finished TimeOverflow → overflows (after_all (begun b) x).clock ≡ true
  run_overflows h = needs b x y TimeOverflow l h (λ e. cc)

  pub run_panicked : (after_all (begun b) (x ++ Cleanup ∷ y)).phase ≡ Finished TaskPanicked → (after_all (begun b) x).phase ≡ Over TaskPanicked
  run_panicked h = needs b x y TaskPanicked l h (λ e. cc)

  pub run_numberless : (after_all (begun b) (x ++ Cleanup ∷ y)).phase ≡ Finished TooManyTasks → ((after_all (begun b) x).phase ≡ Making) × (2 ^ 64 - 1 ≤ (after_all (begun b) x).numbers.next)
  run_numberless h =
      let k = needs b x y TooManyTasks l h (λ e. cc) in
      (k.0, leb-true (2 ^ 64 - 1) (after_all (begun b) x).numbers.next k.1)
