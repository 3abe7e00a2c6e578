-- The runs with panics, and what comes near to one is none.
use Rattle.rt_laws.proofs.Prelude.{◌≡◌, ◌≢◌, ℕ, Bool, true, false, List, [], ◌∷◌, Some, refl, AnswerKind, Stopped, Ended, FinishCause, Completed, TaskPanicked, Answered, State, Halted, begun, after, after_all, MayAnswer, IsLawful, Value, nothing, IsTied, IsRun, gave_beside, Aborting, begin_catching, panicking_root, panicking_journal, raising_root, failed_beside, kept_panic, reported_journal, caught_journal, answered_kept}
use Rattle.rt_laws.proofs.Clock.{lawful-tail}
use Rattle.rt_laws.proofs.Values.{same_value}
use Rattle.rt_laws.proofs.Decided.{lawful}
use Rattle.rt_laws.proofs.Followed.{tied}

reported-lawful : IsLawful (begun (begin_catching false)) reported_journal
unfolding begun after
reported-lawful = lawful (begin_catching false) reported_journal refl

caught-lawful : IsLawful (begun (begin_catching true)) caught_journal
unfolding begun after
caught-lawful = lawful (begin_catching true) caught_journal refl

panicking-lawful : (catch : Bool) → IsLawful (begun (begin_catching catch)) panicking_journal
unfolding begun after
panicking-lawful catch = lawful (begin_catching catch) panicking_journal refl

module _ (text : List ℕ) where
  reported-tied : IsTied (raising_root text) (begun (begin_catching false)) nothing reported_journal (failed_beside 1 text)
  unfolding begun after
  reported-tied = tied (raising_root text) (begun (begin_catching false)) nothing (failed_beside 1 text) reported_journal refl

  caught-tied : IsTied (raising_root text) (begun (begin_catching true)) nothing caught_journal (gave_beside 1 2)
  unfolding begun after
  caught-tied = tied (raising_root text) (begun (begin_catching true)) nothing (gave_beside 1 2) caught_journal refl

  panicking-tied : (catch : Bool) → IsTied (panicking_root text) (begun (begin_catching catch)) nothing panicking_journal (record nothing { panic = Some text })
  unfolding begun after
  panicking-tied catch = tied (panicking_root text) (begun (begin_catching catch)) nothing (record nothing { panic = Some text }) panicking_journal refl

  pub reported_run : IsRun (raising_root text) (begin_catching false) reported_journal TaskPanicked (after_all (begun (begin_catching false)) reported_journal) (failed_beside 1 text)
  unfolding begun after
  reported_run = record { lawful = reported-lawful; reaches = refl; ends = refl; caused = λ e. cc; tied = reported-tied; whole = refl }

  pub caught_run : IsRun (raising_root text) (begin_catching true) caught_journal Completed (after_all (begun (begin_catching true)) caught_journal) (gave_beside 1 2)
  unfolding begun after
  caught_run = record { lawful = caught-lawful; reaches = refl; ends = refl; caused = λ e. cc; tied = caught-tied; whole = refl }

  pub panicking_run : (catch : Bool) → IsRun (panicking_root text) (begin_catching catch) panicking_journal TaskPanicked (after_all (begun (begin_catching catch)) panicking_journal) (record nothing { panic = Some text })
  unfolding begun after
  panicking_run catch =
      record { lawful = panicking-lawful catch; reaches = refl; ends = refl; caused = λ e. cc; tied = panicking-tied catch; whole = refl }

  pub its_text : (cause : FinishCause) (end : State) (value : Value Aborting ℕ) → IsRun (raising_root text) (begin_catching false) reported_journal cause end value → value.panic ≡ Some text
  its_text cause end value run =
      let b = begin_catching false in
      let last = after_all (begun b) reported_journal in
      let e = same_value Aborting ℕ (raising_root text) b b reported_journal cause TaskPanicked end last value (failed_beside 1 text) run reported_run refl in
      rw e refl

-- the visit of a root that is stopped is answered in one way
not-answered : (s : State) (task : ℕ) (kind : AnswerKind) → s.phase ≡ Halted task → kind ≢ Stopped → MayAnswer s task kind → ⊥
not-answered s task Stopped is other m = other refl
not-answered s task Ended is other m = rw is at m
not-answered s task _ is other m = cc

pub no_poll : (kind : AnswerKind) → kind ≢ Stopped → IsLawful (begun (begin_catching false)) (answered_kept kind) → ⊥
unfolding begun after
no_poll kind other l =
    let m = (lawful-tail (begun (begin_catching false)) kept_panic (Answered 0 kind ∷ []) l).0.1.0 in
    not-answered (after_all (begun (begin_catching false)) kept_panic) 0 kind refl other m
