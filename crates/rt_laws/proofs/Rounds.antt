-- A round that runs to its end visits each task that was ready and runs.
use Rattle.rt_laws.proofs.Prelude.{◌≡◌, ◌⊎◌, inl, inr, ℕ, zero, suc, List, [], ◌∷◌, ◌++◌, drop, true, false, eqb, ap, arith, Contains, Bool, ◌&&◌, Option, cases_Bool, Contains-append_right, Contains-permutation, AnswerKind, Pending, Ready, Panicked, Stopped, NoMemory, Ended, FinishCause, Completed, TaskPanicked, Entry, Start, CallEntry, Event, Draw, Root, Round, Visit, Answer, NodeEnd, Advance, Skip, Fire, Cleanup, Crash, Finish, only-rounds, Mark, Outcome, There, Exited, is_ended, has_number, without_number, is_some_number, find, is_flagged, Begin, State, Phase, Visiting, Entered, Polling, Halted, Ending, Leaving, Over, Cleaning, Closing, Crashed, Finished, Between, Turning, begun, from_running, ends_next, reached, after, after_all, is_settled, answered, entered, entered_by, node_ended, cleans, leaves, ended, left_pending, finished, left_of, May, MayAnswer, MayRound, MayCrash, MayFinish, MayEndNode, IsLawful, MayEnd}
use Rattle.rt_laws.proofs.Clock.{lawful-front, lawful-tail}
use Rattle.rt_laws.proofs.Tasks.{has-called}

pub has-from_contains : (k : ℕ) (xs : List ℕ) → Contains xs k → has_number k xs ≡ true
has-from_contains k [] (i, l, e) = absurd (omega arith)
has-from_contains k (x ∷ xs) (zero, l, e) = grind arith
has-from_contains k (x ∷ xs) (suc i, l, e) = grind (arith, has-from_contains k xs (i, omega arith, e))

pub contains-from_has : (k : ℕ) (xs : List ℕ) → has_number k xs ≡ true → Contains xs k
contains-from_has k [] h = absurd (cc)
contains-from_has k (x ∷ xs) h = elim (cases_Bool (eqb x k)) [
  | inl e ↦ (let same : x ≡ k = grind arith in (0, omega arith, same))
  | inr e ↦ Contains-append_right (x ∷ []) xs k (contains-from_has k xs (rw e at h))
]

-- whoever runs isn't passed over
not-passed : (running left : List ℕ) (k : ℕ) → has_number k running ≡ true → has_number k left ≡ true → has_number k (from_running running left) ≡ true
not-passed running [] k r h = absurd (cc)
not-passed running (x ∷ left) k r h = grind (arith, not-passed running left k r)

rest-has : (k other : ℕ) (left : List ℕ) → has_number k left ≡ true → left ≡ other ∷ drop 1 left → eqb other k ≡ false → has_number k (drop 1 left) ≡ true
rest-has k other [] h is e = absurd (cc)
rest-has k other (x ∷ left) h is e = let same : x ≡ other = cc in grind arith

-- in a round, and not in the visit of this task
abbrev IsInRound : ℕ → Phase → Type 0
IsInRound task (Visiting left) = Unit {0}
IsInRound task (Entered other left) = eqb other task ≡ false
IsInRound task (Polling other left) = eqb other task ≡ false
IsInRound task (Ending other result left) = eqb other task ≡ false
IsInRound task (Leaving other result left) = eqb other task ≡ false
IsInRound task _ = ⊥

has-without : (task other : ℕ) (running : List ℕ) → eqb other task ≡ false → has_number task running ≡ true → has_number task (without_number other running) ≡ true
has-without task other [] e h = cc
has-without task other (x ∷ running) e h = grind (arith, has-without task other running)

-- past the visits of all rounds
abbrev IsPast : Phase → Type 0
IsPast (Halted task) = Unit {0}
IsPast (Over cause) = Unit {0}
IsPast (Cleaning cause) = Unit {0}
IsPast (Closing cause) = Unit {0}
IsPast (Crashed cause) = Unit {0}
IsPast (Finished cause) = Unit {0}
IsPast _ = ⊥

past-entered : (s : State) (p : Phase) → IsPast p → IsPast (entered s p)
past-entered s (Entered task left) k = absurd k
past-entered s _ k = k

past-node : (p : Phase) → IsPast p → IsPast (node_ended p)
past-node (Cleaning cause) k = tt
past-node (Leaving task result left) k = absurd k
past-node _ k = k

past-cleans : (over : Bool) (cause : Option FinishCause) → IsPast (cleans over cause)
past-cleans true cause = tt
past-cleans false cause = tt

past-round : (p : Phase) (s : State) → IsPast p → MayRound p s → ⊥
past-round Between s k m = k
past-round Turning s k m = k
past-round _ s k m = m

past-ended : (settles : Bool) (p : Phase) → IsPast p → IsPast (ended settles p)
past-ended settles (Ending task result left) k = absurd k
past-ended settles _ k = k

past-answered : (s : State) (task : ℕ) (kind : AnswerKind) → IsPast s.phase → MayAnswer s task kind → IsPast (answered s task kind)
past-answered s task Pending k m = absurd (rw m at k)
past-answered s task Ready k m = absurd (rw m at k)
past-answered s task Panicked k m = absurd (rw m at k)
past-answered s task Stopped k m = tt
past-answered s task NoMemory k m = tt
past-answered s task Ended k m = past-ended (is_settled s task) s.phase k

past-after : (s : State) (e : Entry) → IsPast s.phase → May s e → IsPast (after s e).phase
unfolding after
past-after s (Start next now deadline cycle) k m = absurd (rw m.1.0 at k)
past-after s (Event label fields) k m = past-entered s s.phase k
past-after s (Root task) k m = absurd (rw m.1.0 at k)
past-after s (Round order) k m = absurd (past-round s.phase s k m.1.0)
past-after s (Visit task) k m = absurd (rw m.1.0 at k)
past-after s (Answer task kind) k m = past-answered s task kind k m.1.0
past-after s (NodeEnd node) k m = past-node s.phase k
past-after s (Advance now) k m = absurd (rw m.1.0 at k)
past-after s Cleanup k m = past-cleans (is_ended s.stood.nodes 0) (reached s)
past-after s (Crash choices) k m = tt
past-after s (Finish cause) k m = tt
past-after s _ k m = k

past-all : (s : State) (y : List Entry) → IsPast s.phase → IsLawful s y → IsPast (after_all s y).phase
past-all s [] k l = k
past-all s (e ∷ y) k l = past-all (after s e) y (past-after s e k l.0) l.1

-- where a clock step may begin
abbrev EndsRound : State → Type 0
EndsRound s = (s.phase ≡ Visiting (left_of s.phase)) × (from_running s.running (left_of s.phase) ≡ [])

-- the task runs, and is still to be visited in this round
module _ (task : ℕ) where
  abbrev Waits : Phase → List ℕ → Type 0
  Waits p running = IsInRound task p × (has_number task (left_of p) ≡ true) × (has_number task running ≡ true)

  abbrev Next : Entry → State → Type 0
  Next e s = (e ≡ Visit task) ⊎ (IsPast s.phase ⊎ Waits s.phase s.running)

  abbrev Goes : Phase → List ℕ → Type 0
  Goes p running = IsPast p ⊎ Waits p running

  waits-by : (stopped flagged : Bool) (other : ℕ) (left running : List ℕ) → Waits (Entered other left) running → Goes (entered_by stopped flagged other left) running
  waits-by true flagged other left running w = inl tt
  waits-by false true other left running w = inr w
  waits-by false false other left running w = inr w

  waits-entered : (s : State) (p : Phase) (running : List ℕ) → Waits p running → Goes (entered s p) running
  waits-entered s (Entered other left) running w = waits-by (is_some_number other s.root && s.panicked) (is_flagged (find other s.marks)) other left running w
  waits-entered s _ running w = inr w

  waits-node : (p : Phase) (running : List ℕ) (ms : List (ℕ × Mark)) (node : ℕ) → Waits p running → MayEndNode p ms node → Waits (node_ended p) running
  waits-node (Leaving other result left) running ms node w m = (tt, w.1, w.2)
  waits-node (Cleaning cause) running ms node w m = absurd w.0
  waits-node _ running ms node w m = absurd m

  no-round : (p : Phase) (s : State) → IsInRound task p → MayRound p s → ⊥
  no-round Between s k m = k
  no-round Turning s k m = k
  no-round _ s k m = m

  no-crash : (p : Phase) (running : List ℕ) → IsInRound task p → MayCrash p running → ⊥
  no-crash (Closing cause) running k m = k
  no-crash _ running k m = m

  no-finish : (p : Phase) (cause : FinishCause) → IsInRound task p → MayFinish p cause → ⊥
  no-finish (Crashed reached) cause k m = k
  no-finish _ cause k m = m

  next-visit : (s : State) (other : ℕ) → Waits s.phase s.running → May s (Visit other) → Next (Visit other) (after s (Visit other))
  unfolding after
  next-visit s other w m = elim (cases_Bool (eqb other task)) [
    | inl e ↦ (let same : other ≡ task = grind arith in inl (ap (λ (k : ℕ). Visit k) same))
    | inr e ↦ (
        let left = from_running s.running (left_of s.phase) in
        let h : has_number task left ≡ true = not-passed s.running (left_of s.phase) task w.2 w.1 in
        inr (inr (e, rest-has task other left h m.1.1 e, w.2)))
  ]

  waits-finished : (is_root : Bool) (cause : FinishCause) (result : Outcome) (other : ℕ) (left running : List ℕ) → eqb other task ≡ false → has_number task left ≡ true → has_number task running ≡ true → Goes (finished is_root cause result other left) running
  waits-finished true cause result other left running e h r = inl tt
  waits-finished false cause result other left running e h r = inr (e, h, r)

  waits-pending : (flagged : Bool) (other : ℕ) (left running : List ℕ) → eqb other task ≡ false → has_number task left ≡ true → has_number task running ≡ true → Waits (left_pending flagged other left) running
  waits-pending true other left running e h r = (e, h, r)
  waits-pending false other left running e h r = (tt, h, r)

  waits-leaves : (settles : Bool) (other : ℕ) (result : Option Outcome) (left running : List ℕ) → eqb other task ≡ false → has_number task left ≡ true → has_number task running ≡ true → Waits (leaves settles other result left) running
  waits-leaves true other result left running e h r = (tt, h, r)
  waits-leaves false other result left running e h r = (e, h, r)

  waits-ended : (settles : Bool) (p : Phase) (next : Option ℕ) (other : ℕ) (running : List ℕ) → Waits p running → MayEnd p next other → Waits (ended settles p) (without_number other running)
  waits-ended settles (Ending ends result left) next other running w m = waits-leaves settles ends result left (without_number other running) w.0 w.1 (rw m (has-without task ends running w.0 w.2))
  waits-ended settles (Closing cause) next other running w m = absurd w.0
  waits-ended settles _ next other running w m = absurd m

  next-answer : (s : State) (other : ℕ) (kind : AnswerKind) → Waits s.phase s.running → May s (Answer other kind) → Next (Answer other kind) (after s (Answer other kind))
  unfolding after
  next-answer s other Pending w m = inr (inr (waits-pending (is_flagged (find other s.marks)) other (left_of s.phase) s.running (let k = w.0 in rw m.1.0 at k) w.1 w.2))
  next-answer s other Ready w m = inr (waits-finished (is_some_number other s.root) Completed There other (left_of s.phase) s.running (let k = w.0 in rw m.1.0 at k) w.1 w.2)
  next-answer s other Panicked w m = inr (waits-finished (is_some_number other s.root) TaskPanicked Exited other (left_of s.phase) s.running (let k = w.0 in rw m.1.0 at k) w.1 w.2)
  next-answer s other Stopped w m = inr (inl tt)
  next-answer s other NoMemory w m = inr (inl tt)
  next-answer s other Ended w m = inr (inr (waits-ended (is_settled s other) s.phase (ends_next s.running s.root) other s.running w m.1.0))

  not-over : (s : State) → Waits s.phase s.running → EndsRound s → ⊥
  not-over s w ends =
      let h : has_number task (from_running s.running (left_of s.phase)) ≡ true = not-passed s.running (left_of s.phase) task w.2 w.1 in
      let none : has_number task [] ≡ true = rw ends.1 at h in
      cc

  next : (s : State) (e : Entry) → Waits s.phase s.running → May s e → Next e (after s e)
  unfolding after
  next s (Start first now deadline cycle) w m = let k = w.0 in absurd (rw m.1.0 at k)
  next s (CallEntry by call reply) w m = inr (inr (w.0, w.1, has-called task s.running call reply w.2))
  next s (Event label fields) w m = inr (waits-entered s s.phase s.running w)
  next s (Draw value) w m = absurd (no-round s.phase s w.0 (only-rounds s.phase s value m.1))
  next s (Root other) w m = let k = w.0 in absurd (rw m.1.0 at k)
  next s (Round order) w m = absurd (no-round s.phase s w.0 m.1.0)
  next s (Visit other) w m = next-visit s other w m
  next s (Answer other kind) w m = next-answer s other kind w m
  next s (NodeEnd node) w m = inr (inr (waits-node s.phase s.running s.marks node w m.1))
  next s (Advance now) w m = absurd (not-over s w (m.1.0, m.1.1))
  next s (Skip now) w m = let k = w.0 in absurd (rw m.1.0 at k)
  next s (Fire alarm) w m = let k = w.0 in absurd (rw m.1.0 at k)
  next s Cleanup w m = inr (inl (past-cleans (is_ended s.stood.nodes 0) (reached s)))
  next s (Crash choices) w m = absurd (no-crash s.phase s.running w.0 m.1.0)
  next s (Finish cause) w m = absurd (no-finish s.phase cause w.0 m.1)
  next s _ w m = inr (inr w)

  visits : (s : State) (y : List Entry) → Waits s.phase s.running → IsLawful s y → EndsRound (after_all s y) → Contains y (Visit task)
  visits s [] w l ends = absurd (not-over s w ends)
  visits s (e ∷ y) w l ends = elim (next s e w l.0) [
    | inl z ↦ (0, omega arith, z)
    | inr z ↦ elim z [
      | inl p ↦ (let past = past-all (after s e) y p l.1 in absurd (rw ends.0 at past))
      | inr v ↦ Contains-append_right (e ∷ []) y (Visit task) (visits (after s e) y v l.1 ends)
    ]
  ]

pub run_visits : (b : Begin) (x y z : List Entry) (order : List ℕ) (now task : ℕ) → IsLawful (begun b) (x ++ Round order ∷ (y ++ Advance now ∷ z)) → Contains (after_all (begun b) x).ready task → Contains (after_all (begun b) x).running task → Contains y (Visit task)
unfolding after
run_visits b x y z order now task l ready runs =
    let s = after_all (begun b) x in
    let t = lawful-tail (begun b) x (Round order ∷ (y ++ Advance now ∷ z)) l in
    let r = after s (Round order) in
    let has = has-from_contains task order (Contains-permutation s.ready order task t.0.1.1 ready) in
    let m = (lawful-tail r y (Advance now ∷ z) t.1).0.1 in
    visits task r y (tt, has, has-from_contains task s.running runs) (lawful-front r y (Advance now ∷ z) t.1) (m.0, m.1)
