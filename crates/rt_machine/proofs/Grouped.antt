-- For how many entries groups of signals ask, when a call changes them.
use Rattle.rt_machine.proofs.Prelude.{◌≡◌, ◌≤◌, ◌+◌, ◌==◌, ℕ, ℤ, List, [], ◌∷◌, ◌++◌, refl, true, false, Bool, arith, Option, Some, None, is_some, length, not, length-append, if◌then◌else◌, Ok, IfErr, option_map_or, Pending, SignalGroup, SignalToken, SignalRecord, StopRecord, group_for, group_of, new_group, new_token, is_alive, is_open, is_waited, waits_in, unwaited, met_at, woken_at, signaled, signaler_closed, signal_closed, signal_polled, signal_answer, shown, completes, completed, completion_answer, completion_closed, completion_polled, without_signal, with_group, with_clone, with_completion, stop_after, stopped_after, stopped_answer, waiting_as, woken_by_closing, woken_by_last, woken_by_stop, woken_by_value, find, without, replaced, those, total, has_signaler, ones, group_places, token_places, signal_places, stopped_places, more-places, without-places}
use Rattle.rt_base.specs.declared.error.Error.TheVariants.{Closed}
use Rattle.rt_machine.proofs.Totals.{without-fewer}

ones-waits : (waits : Option ℕ) → length (those waits) ≡ ones (is_some waits)
ones-waits None = refl
ones-waits (Some task) = refl

-- nobody waits any more, and who waited is woken
unwaited-places : (group : ℕ) (ts : List (ℕ × SignalToken)) → total token_places (unwaited group ts) + length (waits_in group ts) ≡ total token_places ts
unwaited-places group [] = refl
unwaited-places group (t ∷ ts) = grind (arith, unwaited-places group ts, ones-waits t.1.waits, length-append (those t.1.waits) (waits_in group ts))

met-places : (is_one : Bool) (group : ℕ) (ts : List (ℕ × SignalToken)) → total token_places (met_at is_one group ts) + length (woken_at is_one group ts) ≡ total token_places ts
met-places true group ts = omega arith
met-places false group ts = unwaited-places group ts

-- a group whose signaler goes
over-places : (change : SignalGroup → SignalGroup) (group : ℕ) (gs : List (ℕ × SignalGroup)) → ((g : SignalGroup) → (change g).alive ≡ false) → option_map_or (λ g. g.alive) (find group gs) false ≡ true → total group_places (replaced change group gs) + 1 ≡ total group_places gs
over-places change group [] over h = cc
over-places change group (g ∷ gs) over h = grind (arith, over g.1, over-places change group gs over)

signaler-alive : (r : SignalRecord) (s : StopRecord) (group : ℕ) → has_signaler r s group ≡ true → is_alive r group ≡ true
signaler-alive r s group h = grind arith

pub signal-places : (r : SignalRecord) (group : ℕ) (value : ℤ) → is_alive r group ≡ true → signal_places (signaled r group value) + 1 + length (woken_by_value r group) ≡ signal_places r
signal-places r group value h =
    let over = over-places (λ g. record { value = Some value; alive = false }) group r.groups (λ g. refl) h in
    let signals = unwaited-places group r.signals in
    let completions = met-places (is_open group r.signals) group r.completions in
    let both = length-append (waits_in group r.signals) (woken_at (is_open group r.signals) group r.completions) in
    rw h omega (arith, over, signals, completions, both)

pub signaler-places : (r : SignalRecord) (s : StopRecord) (group : ℕ) (value : ℤ) → has_signaler r s group ≡ true → signal_places (signaled r group value) + 1 + length (woken_by_value r group) ≡ signal_places r
signaler-places r s group value h = signal-places r group value (signaler-alive r s group h)

without-found : {V : Type 0} (f : V → ℕ) (k : ℕ) (xs : List (ℕ × V)) (found : Option V) → find k xs ≡ found → total f (without k xs) + option_map_or f found 0 ≡ total f xs
without-found f k xs (Some v) h = without-places f k xs v h
without-found f k [] None h = refl
without-found f k (x ∷ xs) None h = grind (arith, without-found f k xs None)

pub closing-places : (r : SignalRecord) (s : StopRecord) (group : ℕ) → has_signaler r s group ≡ true → signal_places (signaler_closed r group) + (1 + option_map_or token_places (find group r.completions) 0) + length (woken_by_closing r group) ≡ signal_places r
closing-places r s group h =
    let alive = signaler-alive r s group h in
    let over = over-places (λ g. record { value = None; alive = false }) group r.groups (λ g. refl) alive in
    let signals = unwaited-places group r.signals in
    let completions = without-found token_places group r.completions (find group r.completions) refl in
    rw alive omega (arith, over, signals, completions)

pub completion-places : (r : SignalRecord) (completion : ℕ) → signal_places (completion_closed r completion) + option_map_or token_places (find completion r.completions) 0 ≡ signal_places r
completion-places r completion =
    omega (arith, without-found token_places completion r.completions (find completion r.completions) refl)

-- a signal that is given up, and with the last of its group those whom its completions let go
waited-places : (number : ℕ) (ts : List (ℕ × SignalToken)) (t : SignalToken) → find number ts ≡ Some t → token_places t ≡ 1 + ones (is_waited number ts)
waited-places number ts t h = rw h refl

completed-places : (r : SignalRecord) (group : ℕ) → signal_places (completed r group) + length (if completes r group then waits_in group r.completions else []) ≡ signal_places r
completed-places r group = by (completes r group) refl
  where
    by : (met : Bool) → completes r group ≡ met → signal_places (completed r group) + length (if completes r group then waits_in group r.completions else []) ≡ signal_places r
    by true h = rw h omega (arith, unwaited-places group r.completions)
    by false h = rw h omega arith

closed-places : (r : SignalRecord) (signal : ℕ) (t : SignalToken) → find signal r.signals ≡ Some t → signal_places (signal_closed r signal) + (1 + ones (is_waited signal r.signals)) + length (woken_by_last r signal) ≡ signal_places r
closed-places r signal t h =
    let own = waited-places signal r.signals t h in
    let fewer = without-places token_places signal r.signals t h in
    let rest = completed-places (without_signal r signal) t.group in
    rw h omega (arith, rw h at own, fewer, rest)

pub close-places : (r : SignalRecord) (signal : ℕ) → is_some (find signal r.signals) ≡ true → signal_places (signal_closed r signal) + (1 + ones (is_waited signal r.signals)) + length (woken_by_last r signal) ≡ signal_places r
close-places r signal h = by (find signal r.signals) refl
  where
    by : (found : Option SignalToken) → find signal r.signals ≡ found → signal_places (signal_closed r signal) + (1 + ones (is_waited signal r.signals)) + length (woken_by_last r signal) ≡ signal_places r
    by (Some t) e = closed-places r signal t e
    by None e = absurd (cc)

-- a further wait
wait-places : (by : Option ℕ) (number : ℕ) (ts : List (ℕ × SignalToken)) → total token_places (replaced (waiting_as by) number ts) ≤ total token_places ts + ones (not (is_waited number ts))
wait-places by number [] = omega arith
wait-places by number (t ∷ ts) = grind (arith, wait-places by number ts, few by, some-places t.1.waits)
  where
    few : (waits : Option ℕ) → ones (is_some waits) ≤ 1
    few None = omega arith
    few (Some task) = omega arith

    some-places : (waits : Option ℕ) → ones (is_some waits) + ones (not (is_some waits)) ≡ 1
    some-places None = refl
    some-places (Some task) = refl

pub poll-places : (r : SignalRecord) (signal : ℕ) (by : Option ℕ) → signal_answer r signal ≡ Ok Pending → signal_places (signal_polled r signal by) ≤ signal_places r + ones (not (is_waited signal r.signals))
poll-places r signal by h = rw (h, signal_polled) omega (arith, wait-places by signal r.signals)

pub met-poll-places : (r : SignalRecord) (completion : ℕ) (by : Option ℕ) → completion_answer r completion ≡ Ok Pending → signal_places (completion_polled r completion by) ≤ signal_places r + ones (not (is_waited completion r.completions))
met-poll-places r completion by h = rw (h, completion_polled) omega (arith, wait-places by completion r.completions)

-- what is made

pub group-places : (r : SignalRecord) → signal_places (with_group r) ≡ signal_places r + 3
group-places r =
    omega (arith, more-places group_places r.groups (r.count, new_group), more-places token_places r.signals (r.count, new_token r.count), more-places token_places r.completions (r.count, new_token r.count))

pub clone-places : (r : SignalRecord) (signal : ℕ) → is_some (find signal r.signals) ≡ true → signal_places (with_clone r signal) ≡ signal_places r + 1
clone-places r signal h = by (find signal r.signals) refl
  where
    by : (found : Option SignalToken) → find signal r.signals ≡ found → signal_places (with_clone r signal) ≡ signal_places r + 1
    by (Some t) e = rw e omega (arith, more-places token_places r.signals (r.count, new_token (group_for t.group r.count)))
    by None e = absurd (cc)

-- the shutdown

without-signals-fewer : (r : SignalRecord) (signal : ℕ) (found : Option SignalToken) → find signal r.signals ≡ found → signal_places (signal_closed r signal) + length (woken_by_last r signal) ≤ signal_places r
without-signals-fewer r signal (Some t) h = omega (arith, closed-places r signal t h)
without-signals-fewer r signal None h = rw h omega arith

value-fewer : (r : SignalRecord) (group : ℕ) (value : ℤ) (alive : Bool) → is_alive r group ≡ alive → signal_places (signaled r group value) + length (woken_by_value r group) ≤ signal_places r
value-fewer r group value true h = omega (arith, signal-places r group value h)
value-fewer r group value false h = rw h omega arith

-- a completion that was just made lets nobody wait
waits-more : (group : ℕ) (ts : List (ℕ × SignalToken)) (t : ℕ × SignalToken) → t.1.waits ≡ None → waits_in group (ts ++ t ∷ []) ≡ waits_in group ts
waits-more group [] t h = by (t.1.group == group)
  where
    by : (same : Bool) → (if same then those t.1.waits ++ [] else []) ≡ []
    by true = rw h refl
    by false = refl
waits-more group (x ∷ ts) t h = rw (waits-more group ts t h) refl

value-more : (r : SignalRecord) (group : ℕ) → woken_by_value (with_completion r group) group ≡ woken_by_value r group
value-more r group = by (is_open group r.signals) refl
  where
    by : (is_one : Bool) → is_open group r.signals ≡ is_one → woken_by_value (with_completion r group) group ≡ woken_by_value r group
    by true e = rw e refl
    by false e = rw (e, waits-more group r.completions (r.count, new_token (group_for group r.count)) refl) refl

pub stop-places : (r : SignalRecord) (s : StopRecord) (value : ℤ) → signal_places (stop_after r s value) + length (woken_by_stop r s value) ≤ signal_places r + 1
stop-places r s value = by s.value refl
  where
    by : (before : Option ℤ) → s.value ≡ before → signal_places (stop_after r s value) + length (woken_by_stop r s value) ≤ signal_places r + 1
    by (Some first) e = rw e omega (arith, more-places token_places r.completions (r.count, new_token (group_for s.group r.count)))
    by None e =
        let more = with_completion r s.group in
        let given = signaled more s.group value in
        let added = more-places token_places r.completions (r.count, new_token (group_for s.group r.count)) in
        let one = value-fewer more s.group value (is_alive more s.group) refl in
        let two = without-signals-fewer given s.group (find s.group given.signals) refl in
        let three = without-fewer token_places s.group (signal_closed given s.group).completions in
        let both = length-append (woken_by_value r s.group) (woken_by_last given s.group) in
        rw e omega (arith, added, rw (value-more r s.group) at one, two, three, both)

pub stopped-places : (r : SignalRecord) (s : StopRecord) → signal_places (stopped_after r s) ≡ signal_places r + stopped_places (stopped_answer r s)
stopped-places r s = by s.value refl
  where
    by : (before : Option ℤ) → s.value ≡ before → signal_places (stopped_after r s) ≡ signal_places r + stopped_places (stopped_answer r s)
    by (Some first) e = rw e omega arith
    by None e = rw e omega (arith, more-places token_places r.signals (r.count, new_token (group_for s.group r.count)))

-- an open signal is refused for a signaler that was given up alone
shown-closed : (g : Option SignalGroup) → IfErr (shown g) (λ e. e ≡ Closed)
shown-closed None = tt
shown-closed (Some g) = by g.value g.alive refl refl
  where
    by : (value : Option ℤ) (alive : Bool) → g.value ≡ value → g.alive ≡ alive → IfErr (shown (Some g)) (λ e. e ≡ Closed)
    by (Some value) alive v a = rw v tt
    by None true v a = rw (v, a) tt
    by None false v a = rw (v, a) refl

pub open-closed : (r : SignalRecord) (signal : ℕ) → is_some (find signal r.signals) ≡ true → IfErr (signal_answer r signal) (λ e. e ≡ Closed)
open-closed r signal h = by (find signal r.signals) refl
  where
    by : (found : Option SignalToken) → find signal r.signals ≡ found → IfErr (signal_answer r signal) (λ e. e ≡ Closed)
    by (Some t) e = rw e (shown-closed (group_of r t.group))
    by None e = absurd (cc)

pub ruleset group_laws = (open-closed, signaler-places, closing-places, completion-places, close-places, poll-places, met-poll-places, group-places, clone-places, stop-places, stopped-places)
