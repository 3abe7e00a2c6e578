-- The result of a task is stored at most once, and handed out at most once.
use Rattle.rt_laws.proofs.Prelude.{◌≡◌, ◌≢◌, ◌<◌, ◌⊎◌, inl, inr, ℕ, List, [], ◌∷◌, ◌++◌, Option, Some, None, is_some, Bool, true, false, eqb, refl, ap, ◌∙◌, arith, All, AllByRecursion, option_map_or, All-from_recursion, cases_Bool, Call, Spawn, Abort, Join, GiveUp, CallReply, Done, TaskAt, StillPending, IsReady, AnswerKind, Ended, Entry, CallEntry, Root, Answer, NodeEnd, Begin, Outcome, Open, There, Exited, IsClosed, TaskResult, find, has_number, with_number, without, is_some_number, or_else, new_result, with_outcome, with_abort, State, Phase, Ending, Leaving, Closing, begun, ends_next, after, after_all, is_settled, running_called, running_answered, results_called, results_ended, results_answered, results_left, May, MayEnd, Answers, JoinAnswers, OutcomeAnswers, IsLawful, IsStored}
use Rattle.rt_laws.proofs.Clock.{lawful-front, lawful-tail}
use Rattle.rt_laws.proofs.Flags.{IsGone, gone-called, gone-answered, find-other}
use Rattle.rt_laws.proofs.Tasks.{AreTasks, IsTaskAt, AreApart, with-lacks, without-lacks, gone-without, find-removed, tasks-after, begun-tasks, run-tasks}

abbrev is_there_at : Outcome → Bool
is_there_at There = true
is_there_at _ = false

abbrev is_there : Option TaskResult → Bool
is_there r = option_map_or (λ r. is_there_at r.outcome) r false

there-at : (o : Outcome) → is_there_at o ≡ true → o ≡ There
there-at There h = refl
there-at _ h = absurd (cc)

there-stored : (s : State) (task : ℕ) (r : Option TaskResult) → find task s.stood.results ≡ r → is_there r ≡ true → IsStored s task
there-stored s task (Some r) e h = (r, e, there-at r.outcome h)
there-stored s task None e h = absurd (cc)

stored-there : (s : State) (task : ℕ) → IsStored s task → is_there (find task s.stood.results) ≡ true
stored-there s task h = rw (h.1, h.2) refl

-- what is there behind a change was there before it

there-add : (k other : ℕ) (rs : List (ℕ × TaskResult)) → is_there (find k (rs ++ (other, new_result) ∷ [])) ≡ true → is_there (find k rs) ≡ true
there-add k other [] h = elim (cases_Bool (eqb other k)) [
  | inl e ↦ (let z : is_there (Some new_result) ≡ true = rw e at h in absurd (cc))
  | inr e ↦ (let z : is_there None ≡ true = rw e at h in absurd (cc))
]
there-add k other (x ∷ rs) h = elim (cases_Bool (eqb x.0 k)) [
  | inl e ↦ rw e (rw e at h)
  | inr e ↦ rw e (there-add k other rs (rw e at h))
]

there-abort : (k other : ℕ) (rs : List (ℕ × TaskResult)) → is_there (find k (with_abort other rs)) ≡ true → is_there (find k rs) ≡ true
there-abort k other [] h = h
there-abort k other (x ∷ rs) h = grind (arith, there-abort k other rs)

there-outcome : (k other : ℕ) (o : Outcome) (rs : List (ℕ × TaskResult)) → is_there_at o ≡ false → is_there (find k (with_outcome o other rs)) ≡ true → is_there (find k rs) ≡ true
there-outcome k other o [] n h = h
there-outcome k other o (x ∷ rs) n h = grind (arith, there-outcome k other o rs)

find-outcome : (k other : ℕ) (o : Outcome) (rs : List (ℕ × TaskResult)) → eqb other k ≡ false → find k (with_outcome o other rs) ≡ find k rs
find-outcome k other o [] e = refl
find-outcome k other o (x ∷ rs) e = grind (arith, find-outcome k other o rs)

closed-now : (k : ℕ) (rs : List (ℕ × TaskResult)) → is_there (find k (with_outcome IsClosed k rs)) ≡ false
closed-now k [] = refl
closed-now k (x ∷ rs) = grind (arith, closed-now k rs)

there-removed : (k other : ℕ) (rs : List (ℕ × TaskResult)) → AreApart rs → is_there (find k (without other rs)) ≡ true → is_there (find k rs) ≡ true
there-removed k other rs p h = elim (cases_Bool (eqb other k)) [
  | inl e ↦ (
      let same : other ≡ k = grind arith in
      let gone : is_some (find k (without k rs)) ≡ false = find-removed k rs p in
      let found : is_there (find k (without k rs)) ≡ true = rw same at h in
      absurd (none-there (find k (without k rs)) gone found))
  | inr e ↦ (let z : is_there (find k rs) ≡ true = rw (find-other k other rs e) at h in z)
]
  where
    none-there : (r : Option TaskResult) → is_some r ≡ false → is_there r ≡ true → ⊥
    none-there None g f = cc
    none-there (Some r) g f = cc

there-called : (s : State) (by : Option ℕ) (call : Call) (reply : CallReply) (k : ℕ) → AreTasks s → is_there (find k (results_called s.stood.results by call reply)) ≡ true → is_there (find k s.stood.results) ≡ true
there-called s by (Spawn node) (TaskAt task number) k t h = there-add k task s.stood.results h
there-called s by (Abort task) Done k t h = there-abort k task s.stood.results h
there-called s by (Join task) StillPending k t h = there-outcome k task (Open by) s.stood.results refl h
there-called s by (Join task) IsReady k t h = there-outcome k task IsClosed s.stood.results refl h
there-called s by (GiveUp task) Done k t h = there-removed k task s.stood.results t.results h
there-called s by _ _ k t h = h

there-left : (p : Phase) (rs : List (ℕ × TaskResult)) (k : ℕ) → is_there (find k (results_left p rs)) ≡ true → is_there (find k rs) ≡ true
there-left (Leaving task None left) rs k h = there-outcome k task IsClosed rs refl h
there-left (Leaving task (Some result) left) rs k h = h
there-left _ rs k h = h

-- the end of a task leaves the results of others
there-ended : (p : Phase) (next : Option ℕ) (settles : Bool) (task : ℕ) (rs : List (ℕ × TaskResult)) (running : List ℕ) (k : ℕ) → MayEnd p next task → is_there (find k (results_ended p settles task rs)) ≡ true → (eqb task k ≡ true) ⊎ (is_there (find k rs) ≡ true)
there-ended (Ending other (Some result) left) next settles task rs running k m h = elim (cases_Bool (eqb task k)) [
  | inl e ↦ inl e
  | inr e ↦ inr (let z : is_there (find k rs) ≡ true = rw (find-outcome k task result rs e) at h in z)
]
there-ended (Ending other None left) next true task rs running k m h = inr (there-outcome k task IsClosed rs refl h)
there-ended (Ending other None left) next false task rs running k m h = inr h
there-ended (Closing cause) next true task rs running k m h = inr (there-outcome k task IsClosed rs refl h)
there-ended (Closing cause) next false task rs running k m h = inr h
there-ended _ next settles task rs running k m h = absurd m

-- whoever ends next runs
pub next-runs : (running : List ℕ) (root : Option ℕ) (task : ℕ) → ends_next running root ≡ Some task → has_number task running ≡ true
next-runs [] root task h = absurd (cc)
next-runs (k ∷ running) root task h = elim (cases_Bool (is_some_number k root)) [
  | inl e ↦ last (ends_next running root) refl (rw e at h) (λ f. next-runs running root task f)
  | inr e ↦ (let z : Some k ≡ Some task = rw e at h in let same : k ≡ task = cc in grind arith)
]
  where
    last : (o : Option ℕ) → ends_next running root ≡ o → or_else (ends_next running root) (Some k) ≡ Some task → (ends_next running root ≡ Some task → has_number task running ≡ true) → has_number task (k ∷ running) ≡ true
    last None e f more = (let z : Some k ≡ Some task = rw e at f in let same : k ≡ task = cc in grind arith)
    last (Some other) e f more = (let z : Some other ≡ Some task = rw e at f in let r = more (e ∙ z) in grind arith)

end-runs : (p : Phase) (running : List ℕ) (root : Option ℕ) (task : ℕ) → IsTaskAt p running → MayEnd p (ends_next running root) task → has_number task running ≡ true
end-runs (Ending other result left) running root task t m = rw m t
end-runs (Closing cause) running root task t m = next-runs running root task m
end-runs _ running root task t m = absurd m

-- whose result is there doesn't run
abbrev AreEnded : State → Type 0
AreEnded s = (k : ℕ) → is_there (find k s.stood.results) ≡ true → has_number k s.running ≡ false

some-told : (r : Option TaskResult) → is_there r ≡ true → is_some r ≡ true
some-told (Some r) h = refl
some-told None h = absurd (cc)

ended-called : (s : State) (by : Option ℕ) (call : Call) (reply : CallReply) → Answers s call reply → AreTasks s → AreEnded s → (k : ℕ) → is_there (find k (results_called s.stood.results by call reply)) ≡ true → has_number k (running_called s.running call reply) ≡ false
ended-called s by call reply m t d k h =
    let was = there-called s by call reply k t h in
    (gone-called k s call reply m (d k was, t.told k (some-told (find k s.stood.results) was))).0

ended-answered : (s : State) (task : ℕ) (kind : AnswerKind) → May s (Answer task kind) → AreTasks s → AreEnded s → (k : ℕ) → is_there (find k (results_answered s task kind)) ≡ true → has_number k (running_answered s.running task kind) ≡ false
ended-answered s task Ended m t d k h = elim (there-ended s.phase (ends_next s.running s.root) (is_settled s task) task s.stood.results s.running k m.1.0 h) [
  | inl e ↦ (let same : task ≡ k = grind arith in rw same (gone-without k s.running t.once))
  | inr was ↦ without-lacks k task s.running (d k was)
]
ended-answered s task _ m t d k h = d k h

ended-root : (s : State) (task k : ℕ) → task ≡ s.numbers.next → k < s.numbers.next → has_number k s.running ≡ false → has_number k (with_number task s.running) ≡ false
ended-root s task k e l h = with-lacks k task s.running h (rw e (grind arith))

ended-after : (s : State) (e : Entry) → May s e → AreTasks s → AreEnded s → AreEnded (after s e)
unfolding after
ended-after s (CallEntry by call reply) m t d = ended-called s by call reply m.1.1 t d
ended-after s (Root task) m t d = λ k h. ended-root s task k m.1.1 (t.told k (some-told (find k s.stood.results) h)) (d k h)
ended-after s (Answer task kind) m t d = ended-answered s task kind m t d
ended-after s (NodeEnd node) m t d = λ k h. d k (there-left s.phase s.stood.results k h)
ended-after s _ m t d = d

ended-all : (s : State) (x : List Entry) → IsLawful s x → AreTasks s → AreEnded s → AreEnded (after_all s x)
ended-all s [] l t d = d
ended-all s (e ∷ x) l t d = ended-all (after s e) x l.1 (tasks-after s e l.0 t) (ended-after s e l.0 t d)

run-ended : (b : Begin) (x : List Entry) → IsLawful (begun b) x → AreEnded (after_all (begun b) x)
unfolding begun
run-ended b x l = ended-all (begun b) x l (begun-tasks b) (λ k h. absurd (cc))

module _ (task : ℕ) where
  -- its result isn't there, and it has gone
  abbrev IsTaken : State → Type 0
  IsTaken s = (is_there (find task s.stood.results) ≡ true → ⊥) × IsGone task s.running s.numbers

  gone-after : (s : State) (e : Entry) → May s e → IsGone task s.running s.numbers → IsGone task (after s e).running (after s e).numbers
  unfolding after
  gone-after s (CallEntry by call reply) m g = gone-called task s call reply m.1.1 g
  gone-after s (Root other) m g =
      let l = g.1 in
      let e = m.1.1 in
      (ended-root s other task m.1.1 g.1 g.0, omega arith)
  gone-after s (Answer other kind) m g = gone-answered task s other kind g
  gone-after s _ m g = g

  taken-answered : (s : State) (other : ℕ) (kind : AnswerKind) → May s (Answer other kind) → AreTasks s → IsTaken s → is_there (find task (results_answered s other kind)) ≡ true → ⊥
  taken-answered s other Ended m t k h = elim (there-ended s.phase (ends_next s.running s.root) (is_settled s other) other s.stood.results s.running task m.1.0 h) [
    | inl e ↦ (
        let same : other ≡ task = grind arith in
        let runs : has_number task s.running ≡ true = rw same at (end-runs s.phase s.running s.root other t.at m.1.0) in
        let gone = k.1.0 in
        cc)
    | inr was ↦ k.0 was
  ]
  taken-answered s other _ m t k h = k.0 h

  taken-results : (s : State) (e : Entry) → May s e → AreTasks s → IsTaken s → is_there (find task (after s e).stood.results) ≡ true → ⊥
  unfolding after
  taken-results s (CallEntry by call reply) m t k h = k.0 (there-called s by call reply task t h)
  taken-results s (Answer other kind) m t k h = taken-answered s other kind m t k h
  taken-results s (NodeEnd node) m t k h = k.0 (there-left s.phase s.stood.results task h)
  taken-results s _ m t k h = k.0 h

  join-there : (r : Option TaskResult) → JoinAnswers r IsReady → is_there r ≡ true
  join-there None m = absurd m
  join-there (Some r) m = outcome-there r.outcome m
    where
      outcome-there : (o : Outcome) → OutcomeAnswers o IsReady → is_there_at o ≡ true
      outcome-there (Open waits) m = absurd (cc)
      outcome-there There m = refl
      outcome-there Exited m = absurd m
      outcome-there IsClosed m = absurd m

  abbrev HandsNone : Entry → Type 0
  HandsNone e = (by : Option ℕ) → e ≢ CallEntry by (Join task) IsReady

  hands-none : (s : State) (e : Entry) → May s e → IsTaken s → HandsNone e
  hands-none s (CallEntry by (Join other) IsReady) m k who e =
      let same : other ≡ task = cc in
      k.0 (join-there (find task s.stood.results) (rw same at m.1.1))
  hands-none s _ m k who e = cc

  taken-all : (s : State) (y : List Entry) → IsLawful s y → AreTasks s → IsTaken s → AllByRecursion HandsNone y
  taken-all s [] l t k = tt
  taken-all s (e ∷ y) l t k =
      (hands-none s e l.0 k, taken-all (after s e) y l.1 (tasks-after s e l.0 t) (taken-results s e l.0 t k, gone-after s e l.0 k.1))

  -- a task that has gone doesn't end
  gone-ends : (s : State) (e : Entry) → May s e → AreTasks s → IsGone task s.running s.numbers → e ≢ Answer task Ended
  gone-ends s (Answer other Ended) m t g e =
      let same : other ≡ task = cc in
      let runs : has_number task s.running ≡ true = rw same at (end-runs s.phase s.running s.root other t.at m.1.0) in
      let gone = g.0 in
      cc
  gone-ends s _ m t g e = cc

  gone-all : (s : State) (y : List Entry) → IsLawful s y → AreTasks s → IsGone task s.running s.numbers → AllByRecursion (λ (e : Entry). e ≢ Answer task Ended) y
  gone-all s [] l t g = tt
  gone-all s (e ∷ y) l t g = (gone-ends s e l.0 t g, gone-all (after s e) y l.1 (tasks-after s e l.0 t) (gone-after s e l.0 g))

pub handed_once : (b : Begin) (x y : List Entry) (by : Option ℕ) (task : ℕ) → IsLawful (begun b) (x ++ CallEntry by (Join task) IsReady ∷ y) → All (λ (e : Entry). (other : Option ℕ) → e ≢ CallEntry other (Join task) IsReady) y
unfolding after
handed_once b x y by task l =
    let s = after_all (begun b) x in
    let e = CallEntry by (Join task) IsReady in
    let f = lawful-front (begun b) x (e ∷ y) l in
    let r = lawful-tail (begun b) x (e ∷ y) l in
    let t = run-tasks b x f in
    let there = join-there task (find task s.stood.results) r.0.1.1 in
    let none : is_there (find task (with_outcome IsClosed task s.stood.results)) ≡ false = closed-now task s.stood.results in
    let gone : IsGone task s.running s.numbers = (run-ended b x f task there, t.told task (some-told (find task s.stood.results) there)) in
    All-from_recursion (HandsNone task) y (taken-all task (after s e) y r.1 (tasks-after s e r.0 t) ((λ h. cc), gone))

pub ends_once : (b : Begin) (x y : List Entry) (task : ℕ) → IsLawful (begun b) (x ++ Answer task Ended ∷ y) → All (λ (e : Entry). e ≢ Answer task Ended) y
unfolding after
ends_once b x y task l =
    let s = after_all (begun b) x in
    let e = Answer task Ended in
    let r = lawful-tail (begun b) x (e ∷ y) l in
    let t = run-tasks b x (lawful-front (begun b) x (e ∷ y) l) in
    let runs = end-runs s.phase s.running s.root task t.at r.0.1.0 in
    All-from_recursion (λ (e : Entry). e ≢ Answer task Ended) y (gone-all task (after s e) y r.1 (tasks-after s e r.0 t) (gone-without task s.running t.once, t.runs task runs))

-- a result comes to be there with the end of its task
stores : (s : State) (e : Entry) (task : ℕ) → May s e → AreTasks s → (IsStored s task → ⊥) → is_there (find task (after s e).stood.results) ≡ true → e ≡ Answer task Ended
unfolding after
stores s (CallEntry by call reply) task m t n h = absurd (n (there-stored s task (find task s.stood.results) refl (there-called s by call reply task t h)))
stores s (Answer other Ended) task m t n h = elim (there-ended s.phase (ends_next s.running s.root) (is_settled s other) other s.stood.results s.running task m.1.0 h) [
  | inl e ↦ (let same : other ≡ task = grind arith in ap (λ (k : ℕ). Answer k Ended) same)
  | inr was ↦ absurd (n (there-stored s task (find task s.stood.results) refl was))
]
stores s (NodeEnd node) task m t n h = absurd (n (there-stored s task (find task s.stood.results) refl (there-left s.phase s.stood.results task h)))
stores s _ task m t n h = absurd (n (there-stored s task (find task s.stood.results) refl h))

pub stored_at_end : (b : Begin) (x y : List Entry) (e : Entry) (task : ℕ) → IsLawful (begun b) (x ++ e ∷ y) → (IsStored (after_all (begun b) x) task → ⊥) → IsStored (after (after_all (begun b) x) e) task → e ≡ Answer task Ended
stored_at_end b x y e task l n h =
    let s = after_all (begun b) x in
    stores s e task (lawful-tail (begun b) x (e ∷ y) l).0 (run-tasks b x (lawful-front (begun b) x (e ∷ y) l)) n (stored-there (after s e) task h)
