-- Which results have their values.
use Rattle.rt_world.proofs.Prelude.{◌≡◌, ◌≢◌, ◌<◌, ◌∙◌, sym, ap, ℕ, List, [], ◌∷◌, ◌++◌, refl, Bool, true, false, Option, Some, None, is_some, arith, eqb, ◌⊎◌, inl, inr, AnswerKind, Panicked, Ended, FinishCause, Outcome, Open, There, Exited, Closed, TaskResult, find, without, replaced, has_number, with_number, without_number, with_task, new_result, with_abort, with_outcome, State, Phase, Making, Between, Visiting, Polling, Halted, Ending, Turning, Over, Cleaning, Closing, Crashed, Finished, answered, cleans, entered_by, finished, left_pending, node_ended, results_answered, results_left, running_answered, MayClose, AreThere, AreOpen, IsComing}
use Rattle.rt_audit.specs.declared.answer.AnswerKind.TheVariants.{Pending, Ready, Stopped, NoMemory}

module _ {O : Type 0} (rs : List (ℕ × TaskResult)) (os : List (ℕ × O)) where
  pub coming-making : IsComing Making rs os
  unfolding IsComing
  coming-making task left e = cc

  pub coming-between : IsComing Between rs os
  unfolding IsComing
  coming-between task left e = cc

  pub coming-visiting : (order : List ℕ) → IsComing (Visiting order) rs os
  unfolding IsComing
  coming-visiting order task left e = cc

  pub coming-turning : IsComing Turning rs os
  unfolding IsComing
  coming-turning task left e = cc

  pub coming-over : (cause : FinishCause) → IsComing (Over cause) rs os
  unfolding IsComing
  coming-over cause task left e = cc

  coming-cleaning : (cause : Option FinishCause) → IsComing (Cleaning cause) rs os
  unfolding IsComing
  coming-cleaning cause task left e = cc

  pub coming-closing : (cause : Option FinishCause) → IsComing (Closing cause) rs os
  unfolding IsComing
  coming-closing cause task left e = cc

  pub coming-crashed : (cause : Option FinishCause) → IsComing (Crashed cause) rs os
  unfolding IsComing
  coming-crashed cause task left e = cc

  pub coming-finished : (cause : FinishCause) → IsComing (Finished cause) rs os
  unfolding IsComing
  coming-finished cause task left e = cc

  -- behind the entries by which a cleanup begins
  pub coming-cleans : (ended : Bool) (cause : Option FinishCause) → IsComing (cleans ended cause) rs os
  coming-cleans true cause = coming-closing cause
  coming-cleans false cause = coming-cleaning cause

  pub coming-cleaned : (ended : Bool) (cause : Option FinishCause) → IsComing (node_ended (cleans ended cause)) rs os
  coming-cleaned true cause = coming-closing cause
  coming-cleaned false cause = coming-closing cause

  coming-polling : (k : ℕ) (rest : List ℕ) → IsComing (Polling k rest) rs os
  unfolding IsComing
  coming-polling k rest task left e = cc

  coming-halted : (k : ℕ) → IsComing (Halted k) rs os
  unfolding IsComing
  coming-halted k task left e = cc

  pub coming-unfinished : (k : ℕ) (rest : List ℕ) → IsComing (Ending k None rest) rs os
  unfolding IsComing
  coming-unfinished k rest task left e = cc

  coming-exited : (k : ℕ) (rest : List ℕ) → IsComing (Ending k (Some Exited) rest) rs os
  unfolding IsComing
  coming-exited k rest task left e = cc

  -- where the cleanup may begin no task ends in its visit
  pub coming-cut : (phase : Phase) → MayClose phase → IsComing phase rs os
  coming-cut Making may = coming-making
  coming-cut Between may = coming-between
  coming-cut (Visiting left) may = coming-visiting left
  coming-cut Turning may = coming-turning
  coming-cut (Over cause) may = coming-over cause
  coming-cut _ may = absurd may

  pub coming-entered : (stops flagged : Bool) (k : ℕ) (rest : List ℕ) → IsComing (entered_by stops flagged k rest) rs os
  coming-entered true flagged k rest = coming-halted k
  coming-entered false true k rest = coming-unfinished k rest
  coming-entered false false k rest = coming-polling k rest

  coming-left : (flagged : Bool) (k : ℕ) (rest : List ℕ) → IsComing (left_pending flagged k rest) rs os
  coming-left true k rest = coming-unfinished k rest
  coming-left false k rest = coming-visiting rest

  coming-panicked : (root : Bool) (cause : FinishCause) (k : ℕ) (rest : List ℕ) → IsComing (finished root cause Exited k rest) rs os
  coming-panicked true cause k rest = coming-over cause
  coming-panicked false cause k rest = coming-exited k rest

  pub coming-answered : (s : State) (k : ℕ) (kind : AnswerKind) → kind ≢ Ready → kind ≢ Ended → IsComing (answered s k kind) rs os
  coming-answered s k Pending r e = coming-left _ k _
  coming-answered s k Ready r e = absurd (r refl)
  coming-answered s k Panicked r e = coming-panicked _ _ k _
  coming-answered s k Stopped r e = coming-over _
  coming-answered s k NoMemory r e = coming-over _
  coming-answered s k Ended r e = absurd (e refl)

pub results-answered : (s : State) (k : ℕ) (kind : AnswerKind) → kind ≢ Ended → results_answered s k kind ≡ s.stood.results
results-answered s k Ended e = absurd (e refl)
results-answered s k _ e = refl

pub running-answered : (running : List ℕ) (k : ℕ) (kind : AnswerKind) → kind ≢ Ended → running_answered running k kind ≡ running
running-answered running k Ended e = absurd (e refl)
running-answered running k _ e = refl

-- nobody leaves behind the entries by which a cleanup begins
pub results-cleaned : (ended : Bool) (cause : Option FinishCause) (rs : List (ℕ × TaskResult)) → results_left (cleans ended cause) rs ≡ rs
results-cleaned true cause rs = refl
results-cleaned false cause rs = refl

-- results that change

-- a result that is there was there before, where the change leaves none there that wasn't
there-changed : (change : TaskResult → TaskResult) (j k : ℕ) (rs : List (ℕ × TaskResult)) (r : TaskResult) → ((x : TaskResult) → (change x).outcome ≡ There → x.outcome ≡ There) → find j (replaced change k rs) ≡ Some r → r.outcome ≡ There → (w : TaskResult) × (find j rs ≡ Some w) × (w.outcome ≡ There)
there-changed change j k [] r stays h t = cc
there-changed change j k (x ∷ rs) r stays h t = by (λ h. there-changed change j k rs r stays h t) (eqb x.0 k) refl (eqb x.0 j) refl
  where
    by : (find j (replaced change k rs) ≡ Some r → (w : TaskResult) × (find j rs ≡ Some w) × (w.outcome ≡ There)) → (here : Bool) → eqb x.0 k ≡ here → (mine : Bool) → eqb x.0 j ≡ mine → (w : TaskResult) × (find j (x ∷ rs) ≡ Some w) × (w.outcome ≡ There)
    by rest true e true f = let same : change x.1 ≡ r = grind arith in (x.1, rw f refl, stays x.1 (rw same t))
    by rest true e false f = let k : find j rs ≡ Some r = grind arith in (r, rw f k, t)
    by rest false e true f = let same : x.1 ≡ r = grind arith in (r, rw (f, same) refl, t)
    by rest false e false f =
        let i = rest (grind arith) in
        (i.0, rw f i.1, i.2)

module _ {O : Type 0} (rs : List (ℕ × TaskResult)) (os : List (ℕ × O)) (there : AreThere rs os) where
  there-with : (change : TaskResult → TaskResult) (k : ℕ) → ((x : TaskResult) → (change x).outcome ≡ There → x.outcome ≡ There) → AreThere (replaced change k rs) os
  unfolding AreThere
  there-with change k stays j r h t = let w = there-changed change j k rs r stays h t in there j w.0 w.1 w.2

  pub there-abort : (k : ℕ) → AreThere (with_abort k rs) os
  there-abort k = there-with (λ r. record r { aborted = true }) k (λ x t. t)

  pub there-open : (by : Option ℕ) (k : ℕ) → AreThere (with_outcome (Open by) k rs) os
  there-open by k = there-with (λ r. record r { outcome = Open by }) k (λ x t. cc)

  pub there-exited : (k : ℕ) → AreThere (with_outcome Exited k rs) os
  there-exited k = there-with (λ r. record r { outcome = Exited }) k (λ x t. cc)

  pub there-closed : (k : ℕ) → AreThere (with_outcome Closed k rs) os
  there-closed k = there-with (λ r. record r { outcome = Closed }) k (λ x t. cc)

pub same-number : (k j : ℕ) → eqb k j ≡ true → k ≡ j
same-number k j e = grind arith

some-changed : (change : TaskResult → TaskResult) (j k : ℕ) (rs : List (ℕ × TaskResult)) → is_some (find j (replaced change k rs)) ≡ is_some (find j rs)
some-changed change j k [] = refl
some-changed change j k (x ∷ rs) = grind (arith, some-changed change j k rs)

pub none-some : {V : Type 0} (o : Option V) → o ≡ None → is_some o ≡ true → ⊥
none-some None e h = cc
none-some (Some v) e h = cc

true-false : (b : Bool) → b ≡ true → b ≡ false → ⊥
true-false true h k = cc
true-false false h k = cc

has-with : (j k : ℕ) (ns : List ℕ) → eqb k j ≡ false → has_number j (with_number k ns) ≡ has_number j ns
has-with j k [] h = rw h refl
has-with j k (n ∷ ns) h = grind (arith, has-with j k ns h)

has-without : (j k : ℕ) (ns : List ℕ) → has_number j (without_number k ns) ≡ true → has_number j ns ≡ true
has-without j k [] h = cc
has-without j k (n ∷ ns) h = grind (arith, has-without j k ns)

find-other : (j k : ℕ) (o : Outcome) (rs : List (ℕ × TaskResult)) → eqb k j ≡ false → find j (with_outcome o k rs) ≡ find j rs
find-other j k o [] e = refl
find-other j k o (x ∷ rs) e = grind (arith, find-other j k o rs e)

abbrev ended_task : Phase → ℕ
ended_task (Ending task own left) = task
ended_task phase = 0

-- a result that is given up, and its value
pub find-without : {V : Type 0} (j k : ℕ) (xs : List (ℕ × V)) → eqb k j ≡ false → find j (without k xs) ≡ find j xs
find-without j k [] h = refl
find-without j k (x ∷ xs) h = grind (arith, find-without j k xs)

pub find-with : {V : Type 0} (j k : ℕ) (v : V) (xs : List (ℕ × V)) → eqb k j ≡ false → find j (with_task k v xs) ≡ find j xs
find-with j k v [] h = rw h refl
find-with j k v (x ∷ xs) h = grind (arith, find-with j k v xs)

pub find-own : {V : Type 0} (k : ℕ) (v : V) (xs : List (ℕ × V)) → is_some (find k (with_task k v xs)) ≡ true
find-own k v [] = grind arith
find-own k v (x ∷ xs) = grind (arith, find-own k v xs)

pub find-last : {V : Type 0} (j k : ℕ) (v : V) (xs : List (ℕ × V)) → eqb k j ≡ false → find j (xs ++ (k, v) ∷ []) ≡ find j xs
find-last j k v [] h = rw h refl
find-last j k v (x ∷ xs) h = grind (arith, find-last j k v xs)

find-here : {V : Type 0} (k : ℕ) (v r : V) (xs : List (ℕ × V)) → find k (xs ++ (k, v) ∷ []) ≡ Some r → (find k xs ≡ Some r) ⊎ (r ≡ v)
find-here k v r [] h = inr (grind arith)
find-here k v r (x ∷ xs) h = by (find-here k v r xs) (eqb x.0 k) refl
  where
    by : (find k (xs ++ (k, v) ∷ []) ≡ Some r → (find k xs ≡ Some r) ⊎ (r ≡ v)) → (b : Bool) → eqb x.0 k ≡ b → (find k (x ∷ xs) ≡ Some r) ⊎ (r ≡ v)
    by rest true e = inl (grind arith)
    by rest false e = elim (rest (grind arith)) [ inl i ↦ inl (rw e i) | inr i ↦ inr i ]

open-there : (r : TaskResult) → r ≡ new_result → r.outcome ≡ There → ⊥
open-there r e t = let bad : Open None ≡ There = sym (ap (λ (x : TaskResult). x.outcome) e) ∙ t in cc

module _ {O : Type 0} (rs : List (ℕ × TaskResult)) (os : List (ℕ × O)) (there : AreThere rs os) where
  pub there-given-up : (k : ℕ) → find k (without k rs) ≡ None → AreThere (without k rs) (without k os)
  unfolding AreThere
  there-given-up k gone j r h t = by (eqb k j) refl
    where
      by : (b : Bool) → eqb k j ≡ b → is_some (find j (without k os)) ≡ true
      by true e = let same : k ≡ j = same-number k j e in let bad : None ≡ Some r = sym gone ∙ (rw (← same) at h) in absurd (cc)
      by false e = rw (find-without j k os e) (there j r (sym (find-without j k rs e) ∙ h) t)

  pub there-spawned : (k : ℕ) → AreThere (rs ++ (k, new_result) ∷ []) os
  unfolding AreThere
  there-spawned k j r h t = by (eqb k j) refl
    where
      by : (b : Bool) → eqb k j ≡ b → is_some (find j os) ≡ true
      by true e =
          let same : k ≡ j = same-number k j e in
          elim (find-here j new_result r rs (rw (← same) (rw (← same) at h))) [ inl i ↦ there j r i t | inr i ↦ absurd (open-there r i t) ]
      by false e = there j r (sym (find-last j k new_result rs e) ∙ h) t

  -- a value more, in place of any before
  pub there-put : (k : ℕ) (o : O) → AreThere rs (with_task k o (without k os))
  unfolding AreThere
  there-put k o j r h t = by (eqb k j) refl
    where
      by : (b : Bool) → eqb k j ≡ b → is_some (find j (with_task k o (without k os))) ≡ true
      by true e = let same : k ≡ j = same-number k j e in rw (← same) (find-own k o (without k os))
      by false e = rw (find-with j k o (without k os) e, find-without j k os e) (there j r h t)

  -- a result that is taken has no value any more
  pub there-taken : (k : ℕ) → AreThere (with_outcome Closed k rs) (without k os)
  unfolding AreThere
  there-taken k j r h t = by (eqb k j) refl
    where
      closed-there : (k : ℕ) (rs : List (ℕ × TaskResult)) (r : TaskResult) → find k (with_outcome Closed k rs) ≡ Some r → r.outcome ≡ There → ⊥
      closed-there k [] r h t = cc
      closed-there k (x ∷ rs) r h t = grind (arith, closed-there k rs r)

      by : (b : Bool) → eqb k j ≡ b → is_some (find j (without k os)) ≡ true
      by true e = let same : k ≡ j = same-number k j e in absurd (closed-there k rs r (rw (← same) at h) t)
      by false e = rw (find-without j k os e) (let w = there-changed (λ x. record x { outcome = Closed }) j k rs r (λ x t. cc) h t in there j w.0 w.1 w.2)

  -- the result of a task that has ended is there, as its value is
  pub there-ended : (k : ℕ) → (is_some (find k rs) ≡ true → is_some (find k os) ≡ true) → AreThere (with_outcome There k rs) os
  unfolding AreThere
  there-ended k comes j r h t = by (eqb k j) refl
    where
      changed-some : (k : ℕ) (rs : List (ℕ × TaskResult)) (r : TaskResult) → find k (with_outcome There k rs) ≡ Some r → is_some (find k rs) ≡ true
      changed-some k [] r h = cc
      changed-some k (x ∷ rs) r h = grind (arith, changed-some k rs r)

      other : (j k : ℕ) (rs : List (ℕ × TaskResult)) → eqb k j ≡ false → find j (with_outcome There k rs) ≡ find j rs
      other j k [] e = refl
      other j k (x ∷ rs) e = grind (arith, other j k rs e)

      by : (b : Bool) → eqb k j ≡ b → is_some (find j os) ≡ true
      by true e = let same : k ≡ j = same-number k j e in rw (← same) (comes (changed-some k rs r (rw (← same) at h)))
      by false e = there j r (sym (other j k rs e) ∙ h) t

module _ {O : Type 0} (phase : Phase) (rs : List (ℕ × TaskResult)) (os : List (ℕ × O)) (coming : IsComing phase rs os) where
  pub coming-given-up : (k : ℕ) → find k (without k rs) ≡ None → IsComing phase (without k rs) (without k os)
  unfolding IsComing
  coming-given-up k gone j left e h = by (eqb k j) refl
    where
      by : (b : Bool) → eqb k j ≡ b → is_some (find j (without k os)) ≡ true
      by true m = let same : k ≡ j = same-number k j m in let none : find j (without k rs) ≡ None = rw (← same) gone in absurd (none-some (find j (without k rs)) none h)
      by false m = rw (find-without j k os m) (coming j left e (rw (← find-without j k rs m) h))

  pub coming-taken : (k : ℕ) (r : TaskResult) (running : List ℕ) → AreOpen running rs → find k rs ≡ Some r → r.outcome ≡ There → ((j : ℕ) (left : List ℕ) → phase ≡ Ending j (Some There) left → has_number j running ≡ true) → IsComing phase (with_outcome Closed k rs) (without k os)
  unfolding IsComing AreOpen
  coming-taken k r running unset found there runs j left e h = by (eqb k j) refl
    where
      by : (b : Bool) → eqb k j ≡ b → is_some (find j (without k os)) ≡ true
      by true m = let same : k ≡ j = same-number k j m in absurd (unset k r (rw same (runs j left e)) found there)
      by false m = rw (find-without j k os m) (coming j left e (sym (some-changed (λ x. record x { outcome = Closed }) j k rs) ∙ h))

  pub coming-changed : (change : TaskResult → TaskResult) (k : ℕ) → IsComing phase (replaced change k rs) os
  unfolding IsComing
  coming-changed change k task left e s = coming task left e (sym (some-changed change task k rs) ∙ s)

  pub coming-spawned : (k : ℕ) → ((j : ℕ) (left : List ℕ) → phase ≡ Ending j (Some There) left → j < k) → IsComing phase (rs ++ (k, new_result) ∷ []) os
  unfolding IsComing
  coming-spawned k below j left e h = coming j left e (rw (← find-last j k new_result rs (grind (arith, below j left e))) h)

module _ (running : List ℕ) (rs : List (ℕ × TaskResult)) (unset : AreOpen running rs) where
  pub open-changed : (change : TaskResult → TaskResult) (k : ℕ) → ((x : TaskResult) → (change x).outcome ≡ There → x.outcome ≡ There) → AreOpen running (replaced change k rs)
  unfolding AreOpen
  open-changed change k stays j r runs h t = let w = there-changed change j k rs r stays h t in unset j w.0 runs w.1 w.2

  pub open-given-up : (k : ℕ) → find k (without k rs) ≡ None → AreOpen running (without k rs)
  unfolding AreOpen
  open-given-up k gone j r runs h t = by (eqb k j) refl
    where
      by : (b : Bool) → eqb k j ≡ b → ⊥
      by true m = let same : k ≡ j = same-number k j m in let bad : None ≡ Some r = sym gone ∙ (rw (← same) at h) in cc
      by false m = unset j r runs (rw (← find-without j k rs m) h) t

  -- a task that was spawned has a result that is open
  pub open-spawned : (k : ℕ) → find k rs ≡ None → AreOpen (with_number k running) (rs ++ (k, new_result) ∷ [])
  unfolding AreOpen
  open-spawned k fresh j r runs h t = by (eqb k j) refl
    where
      by : (b : Bool) → eqb k j ≡ b → ⊥
      by true m =
          let same : k ≡ j = same-number k j m in
          elim (find-here k new_result r rs (rw (← same) at h)) [ inl i ↦ (let bad : None ≡ Some r = sym fresh ∙ i in absurd (cc)) | inr i ↦ open-there r i t ]
      by false m = unset j r (rw (← has-with j k running m) runs) (rw (← find-last j k new_result rs m) h) t

  -- a root has none
  pub open-root : (k : ℕ) → find k rs ≡ None → AreOpen (with_number k running) rs
  unfolding AreOpen
  open-root k fresh j r runs h t = by (eqb k j) refl
    where
      by : (b : Bool) → eqb k j ≡ b → ⊥
      by true m = let same : k ≡ j = same-number k j m in let bad : None ≡ Some r = sym fresh ∙ (rw (← same) at h) in cc
      by false m = unset j r (rw (← has-with j k running m) runs) h t

  -- a task that has ended doesn't run any more
  pub open-ended : (k : ℕ) (o : Outcome) → has_number k (without_number k running) ≡ false → AreOpen (without_number k running) (with_outcome o k rs)
  unfolding AreOpen
  open-ended k o gone j r runs h t = by (eqb k j) refl
    where
      by : (b : Bool) → eqb k j ≡ b → ⊥
      by true m = let same : k ≡ j = same-number k j m in let no : has_number j (without_number k running) ≡ false = rw (← same) gone in absurd (true-false (has_number j (without_number k running)) runs no)
      by false m = unset j r (has-without j k running runs) (rw (← find-other j k o rs m) h) t

-- a value that was put for the task that ends is there, and none has to be where its result was given up
pub coming-put : {O : Type 0} (rs : List (ℕ × TaskResult)) (k : ℕ) (o : O) (os : List (ℕ × O)) (rest : List ℕ) → IsComing (Ending k (Some There) rest) rs (with_task k o (without k os))
unfolding IsComing
coming-put rs k o os rest j left e h = let same : k ≡ j = ap ended_task e in rw (← same) (find-own k o (without k os))

pub coming-gone : {O : Type 0} (rs : List (ℕ × TaskResult)) (k : ℕ) (os : List (ℕ × O)) (rest : List ℕ) → is_some (find k rs) ≡ false → IsComing (Ending k (Some There) rest) rs os
unfolding IsComing
coming-gone rs k os rest gone j left e h = let same : k ≡ j = ap ended_task e in absurd (true-false (is_some (find k rs)) (rw same h) gone)

pub open-none : AreOpen [] []
unfolding AreOpen
open-none j r runs h t = cc

pub ruleset coming_laws = (coming-between, coming-visiting, coming-turning, coming-over, coming-closing, coming-crashed, coming-finished, coming-entered, coming-answered, results-answered, running-answered, there-closed, open-root)
