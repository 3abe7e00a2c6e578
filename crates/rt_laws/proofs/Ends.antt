-- Runs that end for each of the other causes, and the orders of rounds.
use Rattle.rt_laws.proofs.Prelude.{◌+◌, ◌-◌, ◌^◌, inl, ℕ, List, [], ◌∷◌, ◌++◌, Some, None, refl, rules, IsPermutation-refl, MAX_TIME, AnswersPending, FinishCause, Timeout, Stalled, TimeOverflow, Entry, Start, Root, Round, Answered, Advance, Begin, begun, after, after_all, AreDrawn, put, Value, IsTied, nothing, IsRun, IsValidInput, IsTied-append, small_begin, begin_by, pending_root, visiting_root, root_ends, finishing, stalled_journal, late_journal, at_once_late_journal, overflow_journal, no_number_journal, ready_journal, skipped_journal, short_journal, drawn}
use Rattle.rt_audit.specs.declared.finish.FinishCause.TheVariants.{TooManyTasks}
use Rattle.rt_laws.proofs.Runs.{ends-tied}

abbrev waits : Value (Unit {0}) ℕ
waits = record nothing { held = put 0 tt nothing.held }

-- up to the answer of its first poll
abbrev polls_once : Begin → List Entry
polls_once b = (Start b.first b.start b.deadline b.cycle ∷ Root 0 ∷ Round (0 ∷ []) ∷ []) ++ visiting_root ++ (Answered 0 AnswersPending ∷ [])

polls-tied : (b : Begin) → IsTied pending_root (begun b) nothing (polls_once b) waits
unfolding begun after
polls-tied b = (
  nothing,
  refl,
  (
    waits,
    (tt, nothing.held, (refl, refl, refl), refl),
    (
      waits,
      (refl, refl),
      (
        waits,
        (refl, refl),
        (
          waits,
          refl,
          (waits, (waits.held, record { before = tt; left = tt; moved = nothing.held; there = refl; walks = (refl, refl, refl); is = refl }, refl), refl),
        ),
      ),
    ),
  ),
)

-- of a run of this root, from this beginning
abbrev EndsBy : Begin → List Entry → FinishCause → Type 0
EndsBy b x cause = IsRun pending_root b x cause (after_all (begun b) x) nothing

module _ (b : Begin) (cause : FinishCause) where
  -- behind its first poll, and behind the clock step that follows
  polled-tied : IsTied pending_root (begun b) nothing (polls_once b ++ root_ends ++ finishing cause) nothing
  unfolding begun after
  polled-tied =
      IsTied-append pending_root (begun b) nothing waits nothing (polls_once b) (root_ends ++ finishing cause) (polls-tied b) (ends-tied pending_root (after_all (begun b) (polls_once b)) waits tt cause refl refl refl refl refl)

  stepped-tied : (now : ℕ) → IsTied pending_root (begun b) nothing (polls_once b ++ (Advance now ∷ []) ++ root_ends ++ finishing cause) nothing
  unfolding begun after
  stepped-tied now =
      let s = after (after_all (begun b) (polls_once b)) (Advance now) in
      IsTied-append pending_root (begun b) nothing waits nothing (polls_once b) ((Advance now ∷ []) ++ root_ends ++ finishing cause) (polls-tied b) (waits, (refl, refl), ends-tied pending_root s waits tt cause refl refl refl refl refl)

pub stalled_run : EndsBy small_begin stalled_journal Stalled
unfolding begun after
stalled_run = record {
  lawful = search (rules, IsPermutation-refl);
  reaches = refl;
  ends = refl;
  caused = λ e. cc;
  tied = stepped-tied small_begin Stalled 1000000;
  whole = refl;
}

pub late_run : EndsBy (begin_by 1000000 (Some 1000000) 0) late_journal Timeout
unfolding begun after
late_run = record {
  lawful = search (rules, IsPermutation-refl);
  reaches = refl;
  ends = refl;
  caused = λ e. cc;
  tied = stepped-tied (begin_by 1000000 (Some 1000000) 0) Timeout 1000000;
  whole = refl;
}

pub at_once_late_run : EndsBy (begin_by 1000000 (Some 0) 0) at_once_late_journal Timeout
unfolding begun after
at_once_late_run =
    let s = after_all (begun (begin_by 1000000 (Some 0) 0)) (Start 0 0 (Some 0) 1000000 ∷ Root 0 ∷ []) in
    record {
      lawful = search rules;
      reaches = refl;
      ends = refl;
      caused = λ e. cc;
      tied = (nothing, refl, (waits, (tt, nothing.held, (refl, refl, refl), refl), ends-tied pending_root s waits tt Timeout refl refl refl refl refl));
      whole = refl;
    }

pub overflow_run : EndsBy (begin_by (MAX_TIME + 1) None 0) overflow_journal TimeOverflow
unfolding begun after
overflow_run = record {
  lawful = search (rules, IsPermutation-refl);
  reaches = refl;
  ends = refl;
  caused = λ e. cc;
  tied = polled-tied (begin_by (MAX_TIME + 1) None 0) TimeOverflow;
  whole = refl;
}

pub no_number_run : EndsBy (begin_by 1000000 None (2 ^ 64 - 1)) no_number_journal TooManyTasks
unfolding begun after
no_number_run =
    let made : Value (Unit {0}) ℕ = record nothing { unmade = Some tt } in
    record {
      lawful = search rules;
      reaches = refl;
      ends = refl;
      caused = λ e. cc;
      tied = (nothing, refl, (made, inl (tt, (refl, refl, refl), refl), (made, refl, (made, refl, (nothing, inl ((λ there. (refl, refl, (refl, refl, refl)), λ gone. absurd (cc)), refl), (nothing, refl, refl))))));
      whole = refl;
    }

pub not_valid : IsValidInput pending_root small_begin → ⊥
unfolding begun after
not_valid valid = let e = valid stalled_journal Stalled (after_all (begun small_begin) stalled_journal) nothing stalled_run in cc

-- the orders of rounds

pub ready_drawn : AreDrawn (begun small_begin) ready_journal
unfolding begun after
ready_drawn = search rules

pub skipped_drawn : (due : ℕ) → AreDrawn (begun small_begin) (skipped_journal due)
unfolding begun after
skipped_drawn due = search rules

pub short_drawn : (due : ℕ) → AreDrawn (begun small_begin) (short_journal due)
unfolding begun after
short_drawn due = search rules

pub no_draw : (value : ℕ) → AreDrawn (begun small_begin) (drawn value) → ⊥
unfolding begun after
no_draw value d = let e = d.1.1.1.0.1 in cc
