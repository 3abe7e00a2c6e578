-- A task that is flagged is polled no more.
use Rattle.rt_laws.proofs.Prelude.{◌≡◌, ◌<◌, ◌+◌, ◌⊎◌, inl, inr, ℕ, List, [], ◌∷◌, ◌++◌, Option, Some, None, is_some, Bool, true, false, ◌&&◌, eqb, refl, arith, cases_Bool, Call, Spawn, Abort, AbortTask, CallReply, Done, TaskAt, AnswerKind, Pending, Ended, Entry, CallEntry, Event, Root, Answer, NodeEnd, Begin, Mark, find, has_number, with_number, without_number, without, is_some_number, new_mark, is_flagged, flagged, flag, flag_all, leave, State, Phase, Entered, Polling, Leaving, Numbers, begun, after, after_all, is_settled, numbers_called, running_called, running_answered, marks_called, marks_answered, marks_ended, flagged_by, leaving, unmarked, entered, entered_by, May, Answers, IsLawful, BeginsPoll, PollsNone}
use Rattle.rt_laws.proofs.Clock.{lawful-front, lawful-tail}
use Rattle.rt_laws.proofs.Tasks.{AreTasks, IsTaskAt, spawn-answers, with-lacks, without-lacks, gone-without, tasks-after, run-tasks}

-- marks that are flagged

flagged-add : (k other : ℕ) (m : Mark) (ms : List (ℕ × Mark)) → is_flagged (find k ms) ≡ true → is_flagged (find k (ms ++ (other, m) ∷ [])) ≡ true
flagged-add k other m [] h = absurd (cc)
flagged-add k other m (x ∷ ms) h = grind (arith, flagged-add k other m ms)

flagged-flag : (k other : ℕ) (ms : List (ℕ × Mark)) → is_flagged (find k ms) ≡ true → is_flagged (find k (flag other ms)) ≡ true
flagged-flag k other [] h = h
flagged-flag k other (x ∷ ms) h = grind (arith, flagged-flag k other ms)

flagged-leave : (k other : ℕ) (ms : List (ℕ × Mark)) → is_flagged (find k ms) ≡ true → is_flagged (find k (leave other ms)) ≡ true
flagged-leave k other [] h = h
flagged-leave k other (x ∷ ms) h = grind (arith, flagged-leave k other ms)

pub find-other : {A : Type 0} (k other : ℕ) (ms : List (ℕ × A)) → eqb other k ≡ false → find k (without other ms) ≡ find k ms
find-other k other [] e = refl
find-other k other (x ∷ ms) e = grind (arith, find-other k other ms)

flagged-all : (ks : List ℕ) (k : ℕ) (ms : List (ℕ × Mark)) → is_flagged (find k ms) ≡ true → is_flagged (find k (flag_all ks ms)) ≡ true
flagged-all [] k ms h = h
flagged-all (other ∷ ks) k ms h = flagged-all ks k (flag other ms) (flagged-flag k other ms h)

pub some-flagged : (m : Option Mark) → is_flagged m ≡ true → is_some m ≡ true
some-flagged (Some m) h = refl
some-flagged None h = absurd (cc)

-- this task has gone: it doesn't run, and its number was given
abbrev pub IsGone : ℕ → List ℕ → Numbers → Type 0
IsGone task running n = (has_number task running ≡ false) × (task < n.next)

module _ (task : ℕ) where
  -- it is flagged, or has gone
  abbrev IsOut : List (ℕ × Mark) → List ℕ → Numbers → Type 0
  IsOut ms running n = (is_flagged (find task ms) ≡ true) ⊎ IsGone task running n

  pub gone-called : (s : State) (call : Call) (reply : CallReply) → Answers s call reply → IsGone task s.running s.numbers → IsGone task (running_called s.running call reply) (numbers_called s.numbers call reply)
  gone-called s (Spawn node) (TaskAt other number) m g =
      let e = (spawn-answers s node other number m).1 in
      let l = g.1 in
      let apart : eqb other task ≡ false = rw e (grind arith) in
      (with-lacks task other s.running g.0 apart, omega arith)
  gone-called s _ _ m g = g

  marks-stay : (ms : List (ℕ × Mark)) (call : Call) (reply : CallReply) → is_flagged (find task ms) ≡ true → is_flagged (find task (marks_called ms call reply)) ≡ true
  marks-stay ms (Spawn node) (TaskAt other number) h = flagged-add task other (new_mark node) ms h
  marks-stay ms (Abort other) Done h = flagged-flag task other ms h
  marks-stay ms (AbortTask other) Done h = flagged-flag task other ms h
  marks-stay ms _ _ h = h

  out-called : (s : State) (call : Call) (reply : CallReply) → Answers s call reply → IsOut s.marks s.running s.numbers → IsOut (marks_called s.marks call reply) (running_called s.running call reply) (numbers_called s.numbers call reply)
  out-called s call reply m (inl h) = inl (marks-stay s.marks call reply h)
  out-called s call reply m (inr g) = inr (gone-called s call reply m g)

  pub gone-answered : (s : State) (other : ℕ) (kind : AnswerKind) → IsGone task s.running s.numbers → IsGone task (running_answered s.running other kind) s.numbers
  gone-answered s other Ended g = (without-lacks task other s.running g.0, g.1)
  gone-answered s other _ g = g

  -- the end of a task takes its mark away, or that of none
  out-ended : (s : State) (settles : Bool) (other : ℕ) → AreTasks s → is_flagged (find task s.marks) ≡ true → IsOut (marks_ended settles other s.marks) (without_number other s.running) s.numbers
  out-ended s false other t h = inl h
  out-ended s true other t h = elim (cases_Bool (eqb other task)) [
    | inl e ↦ (let same : other ≡ task = grind arith in inr (rw same (gone-without task s.running t.once, t.marked task (some-flagged (find task s.marks) h))))
    | inr e ↦ inl (rw (find-other task other s.marks e) h)
  ]

  out-answered : (s : State) (other : ℕ) (kind : AnswerKind) → AreTasks s → IsOut s.marks s.running s.numbers → IsOut (marks_answered s other kind) (running_answered s.running other kind) s.numbers
  out-answered s other kind t (inr g) = inr (gone-answered s other kind g)
  out-answered s other Pending t (inl h) = inl (flagged-leave task other s.marks h)
  out-answered s other Ended t (inl h) = out-ended s (is_settled s other) other t h
  out-answered s other _ t (inl h) = inl h

  pub out-unmarked : (p : Phase) (ms : List (ℕ × Mark)) (running : List ℕ) (n : Numbers) → IsTaskAt p running → task < n.next → is_flagged (find task ms) ≡ true → IsOut (unmarked (leaving p) ms) running n
  out-unmarked (Leaving other result left) ms running n t below h = elim (cases_Bool (eqb other task)) [
    | inl e ↦ (let same : other ≡ task = grind arith in inr (rw same at t, below))
    | inr e ↦ inl (rw (find-other task other ms e) h)
  ]
  out-unmarked _ ms running n t below h = inl h

  out-node : (s : State) (node : ℕ) → AreTasks s → IsOut s.marks s.running s.numbers → IsOut (unmarked (leaving s.phase) (flag_all (flagged_by s.stood.nodes node) s.marks)) s.running s.numbers
  out-node s node t (inr g) = inr g
  out-node s node t (inl h) =
      out-unmarked s.phase (flag_all (flagged_by s.stood.nodes node) s.marks) s.running s.numbers t.at (t.marked task (some-flagged (find task s.marks) h)) (flagged-all (flagged_by s.stood.nodes node) task s.marks h)

  out-root : (s : State) (other : ℕ) → other ≡ s.numbers.next → IsOut s.marks s.running s.numbers → IsOut s.marks (with_number other s.running) (record { first = s.numbers.first; next = other + 1 })
  out-root s other e (inl h) = inl h
  out-root s other e (inr g) =
      let l = g.1 in
      let apart : eqb other task ≡ false = rw e (grind arith) in
      inr (with-lacks task other s.running g.0 apart, omega arith)

  abbrev IsOutAt : State → Type 0
  IsOutAt s = IsOut s.marks s.running s.numbers

  out-after : (s : State) (e : Entry) → May s e → AreTasks s → IsOutAt s → IsOutAt (after s e)
  unfolding after
  out-after s (CallEntry by call reply) m t o = out-called s call reply m.1.1 o
  out-after s (Root other) m t o = out-root s other m.1.1 o
  out-after s (Answer other kind) m t o = out-answered s other kind t o
  out-after s (NodeEnd node) m t o = out-node s node t o
  out-after s _ m t o = o

  -- an event doesn't begin its poll

  none-by : (stopped flagged : Bool) (other : ℕ) (left rest : List ℕ) → (other ≡ task → flagged ≡ true) → entered_by stopped flagged other left ≡ Polling task rest → ⊥
  none-by true flagged other left rest f h = cc
  none-by false true other left rest f h = cc
  none-by false false other left rest f h = let same : other ≡ task = cc in let z = f same in cc

  is-flagged : (s : State) (left : List ℕ) → has_number task s.running ≡ true → IsOutAt s → is_flagged (find task s.marks) ≡ true
  is-flagged s left h (inl f) = f
  is-flagged s left h (inr g) = let z = g.0 in absurd (cc)

  none-entered : (s : State) (left : List ℕ) → IsTaskAt (Entered task left) s.running → IsOutAt s → entered s (Entered task left) ≡ Polling task left → ⊥
  none-entered s left t o h =
      none-by (is_some_number task s.root && s.panicked) (is_flagged (find task s.marks)) task left left (λ same. is-flagged s left t o) h

  none-begins : (s : State) (e : Entry) → May s e → AreTasks s → IsOutAt s → BeginsPoll s e task → ⊥
  unfolding after
  none-begins s (Event label fields) m t o p =
      let at : IsTaskAt (Entered task p.0) s.running = rw p.1 at t.at in
      let polls : entered s (Entered task p.0) ≡ Polling task p.0 = rw p.1 at p.2 in
      none-entered s p.0 at o polls
  none-begins s _ m t o p = p

  pub out-all : (s : State) (y : List Entry) → IsLawful s y → AreTasks s → IsOutAt s → PollsNone s y task
  out-all s [] l t o = tt
  out-all s (e ∷ y) l t o = (none-begins s e l.0 t o, out-all (after s e) y l.1 (tasks-after s e l.0 t) (out-after s e l.0 t o))

pub polled_no_more : (b : Begin) (x y : List Entry) (task : ℕ) → IsLawful (begun b) (x ++ y) → is_flagged (find task (after_all (begun b) x).marks) ≡ true → PollsNone (after_all (begun b) x) y task
polled_no_more b x y task l h = out-all task (after_all (begun b) x) y (lawful-tail (begun b) x y l) (run-tasks b x (lawful-front (begun b) x y l)) (inl h)
