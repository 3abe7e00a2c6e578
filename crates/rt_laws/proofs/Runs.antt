-- The journals of the examples are runs.
use Rattle.rt_laws.proofs.Prelude.{sym, ◌≡◌, pos, ◌≤◌, ◌<◌, ◌+◌, inl, ℕ, true, false, leb, ltb, List, [], ◌∷◌, ◌++◌, Some, None, refl, arith, rules, IsPermutation-refl, MAX_TIME, AnswersReady, LacksMemory, FinishCause, Completed, Entry, Wake, Answered, Advance, Skip, Fire, Cleanup, is_live, with_end, State, begun, after, after_all, IsLawful, find, Held, put, Steps, Value, nothing, MovesCleanup, IsTied, taken, IsRun, IsCutOff, IsLawful-append, IsTied-append, small_begin, gave, closes_node, ready_root, counting_root, Sleeper, sleeping_root, opening, visiting_root, still_asleep, awake, alarm_fires, root_ends, finishing, ready_journal, skipped_journal, short_journal, cut_journal, fires_with, early_fire}
use Rattle.rt_audit.specs.declared.finish.FinishCause.TheVariants.{NoMemory}
use Rattle.rt_model.specs.State.{Turn, Stood}
use Rattle.rt_model.specs.Turns.{with_change}
use Rattle.rt_model.specs.Walk.{Walks}
use Rattle.rt_model.specs.declared.answer.Answer.{Answer}
use Rattle.rt_model.specs.declared.answer.Answer.TheVariants.{Ready}
use Rattle.rt_laws.specs.Examples.{counting}
use Rattle.rt_laws.proofs.Followed.{tied}
use Rattle.rt_laws.proofs.Valid.{asleep, with_root, no_values}

-- the end of a root, whatever it was
pub ends-tied : {A O : Type 0} (p : Steps A O) (s : State) (v : Value A O) (a : A) (cause : FinishCause) → MovesCleanup p s v s.phase v → p.task.last a s.clock.time 0 ≡ closes_node → is_live (with_end s.stood.nodes 0) 0 ≡ true → find 0 v.held.tasks ≡ Some a → v.unmade ≡ None → IsTied p s v (root_ends ++ finishing cause) (record v { held = taken 0 v.held })
unfolding after
ends-tied p s v a cause cleans last live there none =
    let w = record v { held = taken 0 v.held } in
    (v, cleans, (v, refl, (v, refl, (w, (a, there, inl (rw last (λ gone. (refl, refl, (refl, refl, refl)), λ gone. absurd (cc)), refl)), (w, rw none (refl, refl), (w, refl, refl))))))

pub ready_run : (number : ℕ) → IsRun (ready_root number) small_begin ready_journal Completed (after_all (begun small_begin) ready_journal) (gave number)
unfolding begun after
ready_run number =
    let p = ready_root number in
    let held : Held (Unit {0}) ℕ = put 0 tt nothing.held in
    let v : Value (Unit {0}) ℕ = record nothing { held = held } in
    let w : Value (Unit {0}) ℕ = record v { output = Some number } in
    record {
      lawful = search (rules, IsPermutation-refl);
      reaches = refl;
      ends = refl;
      caused = λ e. cc;
      tied = (nothing, refl, (v, (tt, nothing.held, (refl, refl, refl), refl), (v, (refl, refl), (v, (refl, refl), (v, refl, (w, (number, held, record { before = tt; left = tt; moved = taken 0 held; there = refl; walks = (refl, refl, refl); is = refl }, refl), ends-tied p (after_all (begun small_begin) (opening ++ visiting_root ++ (Answered 0 AnswersReady ∷ []))) w tt Completed refl refl refl refl refl))))));
      whole = refl;
    }

pub counting_run : (number : ℕ) → IsRun (counting_root number) small_begin ready_journal Completed (after_all (begun small_begin) ready_journal) (record nothing { held = record nothing.held { counts = (0, pos 1) ∷ [] }; output = Some number })
unfolding begun after
counting_run number =
    let r = ready_run number in
    let w : Value (Unit {0}) ℕ = record nothing { held = record nothing.held { counts = (0, pos 1) ∷ [] }; output = Some number } in
    record { lawful = r.lawful; reaches = refl; ends = refl; caused = λ e. cc; tied = tied (counting_root number) (begun small_begin) nothing w ready_journal refl; whole = refl }

pub counting_polls : (number : ℕ) (held end : Held (Unit {0}) ℕ) (turns : List Turn) (stood : Stood) (answer : Answer ℕ) → Walks (counting number) held turns stood answer tt end → (turns ≡ []) × (answer ≡ Ready number) × (end ≡ record held { counts = with_change 0 (pos 1) held.counts })
counting_polls number held end [] stood answer w = (refl, sym w.0, w.2)
counting_polls number held end (t ∷ turns) stood answer w = absurd w

-- a root that sleeps, up to its clock step

asleep-lawful : (due : ℕ) → 0 < due → due ≤ MAX_TIME → IsLawful (begun small_begin) (opening ++ visiting_root ++ still_asleep due ++ (Advance 1000000 ∷ []))
unfolding begun after
asleep-lawful due later within = search (rules, IsPermutation-refl)

asleep-tied : (due : ℕ) → IsTied (sleeping_root due) (begun small_begin) nothing (opening ++ visiting_root ++ still_asleep due ++ (Advance 1000000 ∷ [])) (with_root due (Some 0))
unfolding begun after
asleep-tied due =
    let root : Sleeper = record { due = due; alarm = None } in
    let v = with_root due None in
    let w = with_root due (Some 0) in
    let none : 0 + due ≡ due = omega arith in
    (nothing, refl, (v, (root, no_values, (refl, rw none refl, refl), refl), (v, (refl, refl), (v, (refl, refl), (v, refl, (v, refl, (w, (w.held, record { before = root; left = record { due = due; alarm = Some 0 }; moved = no_values; there = refl; walks = ((refl, refl), (refl, refl, refl)); is = refl }, refl), (w, (refl, refl), refl))))))))

-- and from where its alarm goes off
abbrev waking_up : ℕ → List Entry
waking_up due = alarm_fires ++ visiting_root ++ awake due ++ root_ends ++ finishing Completed

wakes-lawful : (due time : ℕ) → due ≤ time → IsLawful (asleep due time) (waking_up due)
unfolding begun after
wakes-lawful due time late =
    let now : leb due time ≡ true = grind arith in
    rw now (search (rules, IsPermutation-refl))

wakes-tied : (due time : ℕ) → IsTied (sleeping_root due) (asleep due time) (with_root due (Some 0)) (waking_up due) (gave 0)
unfolding begun after
wakes-tied due time =
    let root : Sleeper = record { due = due; alarm = Some 0 } in
    let v = with_root due (Some 0) in
    let w : Value Sleeper ℕ = record v { output = Some 0 } in (
      v,
      (refl, refl),
      (
        v,
        refl,
        (
          v,
          (refl, refl),
          (
            v,
            (refl, refl),
            (
              v,
              refl,
              (
                v,
                refl,
                (
                  w,
                  (0, v.held, record { before = root; left = root; moved = no_values; there = refl; walks = ((refl, tt), (refl, refl, refl)); is = refl }, refl),
                  ends-tied (sleeping_root due) (after_all (asleep due time) (alarm_fires ++ visiting_root ++ awake due)) w root Completed refl refl refl refl refl,
                ),
              ),
            ),
          ),
        ),
      ),
    )

pub skipped_run : (due : ℕ) → 1000000 < due → due ≤ MAX_TIME → IsRun (sleeping_root due) small_begin (skipped_journal due) Completed (after_all (begun small_begin) (skipped_journal due)) (gave 0)
unfolding begun after
skipped_run due later within =
    let first = opening ++ visiting_root ++ still_asleep due ++ (Advance 1000000 ∷ []) in
    let ahead : ltb 1000000 due ≡ true = grind arith in
    let v = with_root due (Some 0) in
    record {
      lawful = IsLawful-append (begun small_begin) first (Skip due ∷ waking_up due) (asleep-lawful due (omega arith) within) ((refl, (refl, rw ahead refl)), wakes-lawful due due (omega arith));
      reaches = refl;
      ends = refl;
      caused = λ e. cc;
      tied = IsTied-append (sleeping_root due) (begun small_begin) nothing v (gave 0) first (Skip due ∷ waking_up due) (asleep-tied due) (v, (refl, refl), wakes-tied due due);
      whole = refl;
    }

pub short_run : (due : ℕ) → 0 < due → due ≤ 1000000 → IsRun (sleeping_root due) small_begin (short_journal due) Completed (after_all (begun small_begin) (short_journal due)) (gave 0)
unfolding begun after
short_run due later short =
    let first = opening ++ visiting_root ++ still_asleep due ++ (Advance 1000000 ∷ []) in
    record {
      lawful = IsLawful-append (begun small_begin) first (waking_up due) (asleep-lawful due later (omega arith)) (wakes-lawful due 1000000 short);
      reaches = refl;
      ends = refl;
      caused = λ e. cc;
      tied = IsTied-append (sleeping_root due) (begun small_begin) nothing (with_root due (Some 0)) (gave 0) first (waking_up due) (asleep-tied due) (wakes-tied due 1000000);
      whole = refl;
    }

-- a run that was cut off in the first poll of its root
pub cut_off : (due : ℕ) → IsCutOff (sleeping_root due) small_begin cut_journal
unfolding begun after
cut_off due =
    let root : Sleeper = record { due = due; alarm = None } in
    let v = with_root due None in
    let w : Value Sleeper ℕ = record v { whole = false } in
    let none : 0 + due ≡ due = omega arith in
    record {
      value = record w { held = no_values };
      lawful = search (rules, IsPermutation-refl);
      ends = refl;
      tied = (
        nothing,
        refl,
        (
          v,
          (root, no_values, (refl, rw none refl, refl), refl),
          (
            v,
            (refl, refl),
            (
              v,
              (refl, refl),
              (
                v,
                refl,
                (
                  w,
                  record { before = root; left = root; there = refl; moved = no_values; breaks = inl (record { front = []; rest = []; mid = no_values; are = refl; walks = (tt, ([], refl)); frees = ([], refl) }); is = refl },
                  ends-tied (sleeping_root due) (after_all (begun small_begin) (opening ++ visiting_root ++ (Answered 0 LacksMemory ∷ []))) w root NoMemory refl refl refl refl refl,
                ),
              ),
            ),
          ),
        ),
      );
    }

-- when they end

pub ready_time : (after_all (begun small_begin) ready_journal).clock.time ≡ 0
unfolding begun after
ready_time = refl

pub skipped_time : (due : ℕ) → (after_all (begun small_begin) (skipped_journal due)).clock.time ≡ due
unfolding begun after
skipped_time due = refl

pub short_time : (due : ℕ) → (after_all (begun small_begin) (short_journal due)).clock.time ≡ 1000000
unfolding begun after
short_time due = refl

-- what comes near to their near misses

pub wakes_behind_its_alarm : (due : ℕ) → 1000000 < due → due ≤ MAX_TIME → IsLawful (begun small_begin) (fires_with due (Wake 0 ∷ []))
unfolding begun after
wakes_behind_its_alarm due later within =
    let first = opening ++ visiting_root ++ still_asleep due ++ (Advance 1000000 ∷ []) in
    let ahead : ltb 1000000 due ≡ true = grind arith in
    let now : leb due due ≡ true = grind arith in
    IsLawful-append (begun small_begin) first (Skip due ∷ Fire 0 ∷ Wake 0 ∷ Cleanup ∷ []) (asleep-lawful due (omega arith) within) ((refl, (refl, rw ahead refl)), rw now (search rules))

pub fires_within : (due : ℕ) → 0 < due → due ≤ 1000000 → IsLawful (begun small_begin) (early_fire due)
unfolding begun after
fires_within due later short =
    let first = opening ++ visiting_root ++ still_asleep due ++ (Advance 1000000 ∷ []) in
    let now : leb due 1000000 ≡ true = grind arith in
    IsLawful-append (begun small_begin) first (Fire 0 ∷ []) (asleep-lawful due later (omega arith)) (rw now (search rules))
