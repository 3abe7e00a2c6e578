-- The journals of the worked examples are runs of their scripts, and their inputs are valid.
use Rattle.rt_scripts.proofs.Prelude.{◌≡◌, ◌≤◌, ◌<◌, ◌+◌, inl, inr, ℕ, ℤ, true, false, leb, ltb, [], ◌∷◌, ◌++◌, Option, Some, None, refl, arith, rules, cases_Bool, IsPermutation-refl, MAX_TIME, AnswersPending, AnswersReady, SleepPoll, PendingAt, IsOver, Completed, Answered, Advance, Skip, Round, Visit, Event, Call, Fire, Wake, Pending, Ready, from_begin, process_task, task_fields, after, after_all, put, Gives, followed_by, then, Value, nothing, taken, IsTied, IsRun, IsValidInput, small_begin, closes_node, opening, visiting_root, still_asleep, awake_then, alarm_fires, root_ends, finishing, ready_journal, skipped_journal, short_journal, ends-tied, skipped_run, short_run, rounds, visiting, entered, visited, polling_gives, polling_sleeps, polling_wakes, fired, skips, woken, asleep_at, first_poll, first_polled, only, with_state, IsTied-append, sleep_for, sleep_heard, sleep_polls, Sleeper, End, Sleep, Sleeps, Maker, begun, besides, making, text_at, root_steps, Script, Next, aborted_in, aborts_chosen, freed_of, goes_on, passed, polled, ended, releases_all, releases_chosen, sleeps, slept, waiting}
use Rattle.std.specs.Prelude.{pos}
use Rattle.rt_model.specs.Turns.{Held}
use Rattle.rt_laws.proofs.Completing.{any, Completes}

-- a root without scripts beside it
module _ (m : Maker) (alone : m.with ≡ []) where
  pub made : making m ≡ Gives tt (begun m)
  unfolding besides
  made = rw alone refl

  -- one that ends at its first line gives its number, at time 0
  module _ (number : ℤ) (lines : (text_at m.program m.root).lines ≡ End number ∷ []) where
    polls : (time task : ℕ) → polled (begun m) time task ≡ Gives (Ready number) (begun m)
    unfolding goes_on
    polls time task = rw lines refl

    spends : ended (begun m) ≡ closes_node
    unfolding aborts_chosen releases_chosen aborted_in freed_of releases_all followed_by then
    spends = refl

    pub ready-run : IsRun (root_steps m) small_begin ready_journal Completed (after_all (from_begin small_begin) ready_journal) (record nothing { output = Some number })
    unfolding from_begin after
    ready-run =
        let held : Held Script ℤ = put 0 (begun m) nothing.held in
        let v : Value Script ℤ = record nothing { held = held } in
        let w : Value Script ℤ = record v { output = Some number } in
        record {
          lawful = search (rules, IsPermutation-refl);
          reaches = refl;
          ends = refl;
          caused = λ e. cc;
          tied = (nothing, refl, (v, (begun m, nothing.held, rw made (refl, refl, refl), refl), (v, (refl, refl), (v, (refl, refl), (v, refl, (w, (number, held, record { before = begun m; left = begun m; moved = taken 0 held; there = refl; walks = rw (polls 0 0) (refl, refl, refl); is = refl }, refl), ends-tied (root_steps m) (after_all (from_begin small_begin) (opening ++ visiting_root ++ (Answered 0 AnswersReady ∷ []))) w (begun m) Completed refl spends refl refl refl))))));
          whole = refl;
        }

    pub ready-valid : IsValidInput (root_steps m) small_begin
    unfolding from_begin after
    ready-valid =
        let held : Held Script ℤ = nothing.held in
        first_poll (root_steps m) (begun m) made
        (polling_gives (any (root_steps m)) first_polled (with_state (begun m)) refl 0 [] (begun m) refl refl held (Ready number) (begun m) refl (λ text e. cc) (rw (polls 0 0) (refl, refl)) (λ e. absurd (cc)))

  -- one that sleeps first gives its number once the sleep is over

  module _ (number : ℤ) (due : ℕ) (lines : (text_at m.program m.root).lines ≡ Sleep due ∷ End number ∷ []) where
    -- it sleeps until this moment, and was told its alarm
    abbrev sleeper : Option ℕ → Sleeper
    sleeper alarm = record { deadline = due; alarm = alarm }

    abbrev asleep : Script
    asleep = waiting (begun m) (Sleeps (sleeper (Some 0)))

    abbrev awake : Script
    awake = passed asleep (pos 0)

    abbrev on : ℕ → ℕ → Script → Next
    on time task next = goes_on (End number ∷ []) next time task

    sleeps-first : due ≤ MAX_TIME → polled (begun m) 0 0 ≡ then (sleep_polls (sleeper None)) (slept (begun m) (on 0 0))
    unfolding goes_on sleeps sleep_for
    sleeps-first within =
        let early : ltb MAX_TIME (0 + due) ≡ false = grind arith in
        let none : 0 + due ≡ due = omega arith in
        rw (lines, early, none) refl

    goes : (time : ℕ) → polled asleep time 0 ≡ then (sleep_polls (sleeper (Some 0))) (slept asleep (on time 0))
    unfolding goes_on sleeps
    goes time = rw lines refl

    spends-awake : ended awake ≡ closes_node
    unfolding aborts_chosen releases_chosen aborted_in freed_of releases_all followed_by then
    spends-awake = refl

    abbrev holding : Script → Value Script ℤ
    holding s = with_state s

    asleep-tied : due ≤ MAX_TIME → IsTied (root_steps m) (from_begin small_begin) nothing (opening ++ visiting_root ++ still_asleep due ++ (Advance 1000000 ∷ [])) (holding asleep)
    unfolding from_begin after then sleep_polls
    asleep-tied within =
        let v = holding (begun m) in
        let w = holding asleep in
        (nothing, refl, (v, (begun m, nothing.held, rw made (refl, refl, refl), refl), (v, (refl, refl), (v, (refl, refl), (v, refl, (v, refl, (w, (w.held, record { before = begun m; left = asleep; moved = nothing.held; there = refl; walks = rw (sleeps-first within) ((refl, refl), (refl, refl, refl)); is = refl }, refl), (w, (refl, refl), refl))))))))

    wakes-tied : (time : ℕ) → IsTied (root_steps m) (asleep_at due time) (holding asleep) (alarm_fires ++ visiting_root ++ awake_then due ++ root_ends ++ finishing Completed) (record nothing { output = Some number })
    unfolding from_begin after then sleep_polls goes_on
    wakes-tied time =
        let v = holding asleep in
        let w : Value Script ℤ = record (holding awake) { output = Some number } in
        (v, (refl, refl), (v, refl, (v, (refl, refl), (v, (refl, refl), (v, refl, (v, refl, (w, (number, w.held, record { before = asleep; left = awake; moved = nothing.held; there = refl; walks = rw (goes time) ((refl, tt), (refl, refl, refl)); is = refl }, refl), ends-tied (root_steps m) (after_all (asleep_at due time) (alarm_fires ++ visiting_root ++ awake_then due)) w awake Completed refl spends-awake refl refl refl)))))))

    -- the clock skips to the end of a long sleep, and steps past that of a short one

    pub skipped-run : 1000000 < due → due ≤ MAX_TIME → IsRun (root_steps m) small_begin (skipped_journal due) Completed (after_all (from_begin small_begin) (skipped_journal due)) (record nothing { output = Some number })
    unfolding after
    skipped-run later within =
        let first = opening ++ visiting_root ++ still_asleep due ++ (Advance 1000000 ∷ []) in
        let v = holding asleep in
        let run = skipped_run due later within in
        record {
          lawful = run.lawful;
          reaches = refl;
          ends = run.ends;
          caused = λ e. cc;
          tied = IsTied-append (root_steps m) (from_begin small_begin) nothing v (record nothing { output = Some number }) first (Skip due ∷ alarm_fires ++ visiting_root ++ awake_then due ++ root_ends ++ finishing Completed) (asleep-tied within) (v, (refl, refl), wakes-tied due);
          whole = refl;
        }

    pub short-run : 0 < due → due ≤ 1000000 → IsRun (root_steps m) small_begin (short_journal due) Completed (after_all (from_begin small_begin) (short_journal due)) (record nothing { output = Some number })
    short-run later soon =
        let first = opening ++ visiting_root ++ still_asleep due ++ (Advance 1000000 ∷ []) in
        let v = holding asleep in
        let run = short_run due later soon in
        record {
          lawful = run.lawful;
          reaches = refl;
          ends = run.ends;
          caused = λ e. cc;
          tied = IsTied-append (root_steps m) (from_begin small_begin) nothing v (record nothing { output = Some number }) first (alarm_fires ++ visiting_root ++ awake_then due ++ root_ends ++ finishing Completed) (asleep-tied (omega arith)) (wakes-tied 1000000);
          whole = refl;
        }

    falls-asleep : 0 < due → due ≤ MAX_TIME → Completes (any (root_steps m)) (asleep_at due 1000000) (holding asleep) → Completes (any (root_steps m)) first_polled (holding (begun m))
    unfolding from_begin after then sleep_polls
    falls-asleep later within more =
        let p = any (root_steps m) in
        let s = after first_polled (Call (Some 0) (SleepPoll due) (PendingAt 0)) in
        let v = holding (begun m) in
        let w = holding asleep in
        let steps : Completes p (after s (Answered 0 AnswersPending)) w = visited p (after s (Answered 0 AnswersPending)) w refl [] refl refl tt more in
        let answers : Completes p s v = polling_gives p s v refl 0 [] (begun m) refl refl nothing.held Pending asleep refl (λ text e. cc) (rw (sleeps-first within) ((refl, refl), (refl, refl))) (λ e. steps) in
        polling_sleeps p first_polled v refl 0 [] (begun m) refl refl nothing.held due None (λ heard. then (sleep_heard (sleeper None) heard) (slept (begun m) (on 0 0))) (rw (sleeps-first within) (refl, refl)) later answers

    -- where its alarm goes off

    wakes-up : (time : ℕ) → due ≤ time → Completes (any (root_steps m)) (asleep_at due time) (holding asleep)
    unfolding from_begin after then sleep_polls goes_on
    wakes-up time late =
        let p = any (root_steps m) in
        let s1 = asleep_at due time in
        let s2 = after s1 (Fire 0) in
        let s3 = after s2 (Wake 0) in
        let s4 = after s3 (Round (0 ∷ [])) in
        let s5 = after s4 (Visit 0) in
        let s6 = after s5 (Event process_task (task_fields 0 [])) in
        let s7 = after s6 (Call (Some 0) (SleepPoll due) IsOver) in
        let v = holding asleep in
        let over : ltb time due ≡ false = grind arith in
        let now : leb due time ≡ true = grind arith in
        let answers : Completes p s7 v = polling_gives p s7 v refl 0 [] asleep refl refl nothing.held (Ready number) awake refl (λ text e. cc) (rw (goes time) ((refl, tt), (refl, refl))) (λ e. absurd (cc)) in
        let polls : Completes p s6 v = polling_wakes p s6 v refl 0 [] asleep refl refl nothing.held due (Some 0) (λ heard. then (sleep_heard (sleeper (Some 0)) heard) (slept asleep (on time 0))) (rw (goes time) (refl, refl)) late answers in
        let visits : Completes p s4 v = visiting p s4 v refl 0 (0 ∷ []) [] refl refl tt (entered p s5 v refl 0 [] refl polls) in
        let round : Completes p s3 v = rounds p s3 v (inr (refl, refl, refl)) tt (λ order perm. rw (only 0 order perm) visits) refl refl in
        fired p s1 v refl 0 refl (rw over refl) (rw now refl) (rw (over, now) tt) (woken p s2 v 0 [] refl (λ cause e. cc) round)

    -- where the clock skips to it

    skipped : 1000000 < due → Completes (any (root_steps m)) (asleep_at due 1000000) (holding asleep)
    unfolding from_begin after
    skipped later =
        let ahead : ltb 1000000 due ≡ true = grind arith in
        let early : leb due 1000000 ≡ false = grind arith in
        skips (any (root_steps m)) (asleep_at due 1000000) (holding asleep) refl due refl refl (rw early refl) (rw ahead refl) (rw ahead tt) (wakes-up due (omega arith))

    pub sleeping-valid : 0 < due → due ≤ MAX_TIME → IsValidInput (root_steps m) small_begin
    sleeping-valid later within = elim (cases_Bool (leb due 1000000)) [
      | inl soon ↦ first_poll (root_steps m) (begun m) made (falls-asleep later within (wakes-up 1000000 (grind arith)))
      | inr late ↦ first_poll (root_steps m) (begun m) made (falls-asleep later within (skipped (grind arith)))
    ]
