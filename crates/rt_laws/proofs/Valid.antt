-- The inputs of the examples are valid.
use Rattle.rt_laws.proofs.Prelude.{◌≡◌, ◌≤◌, ◌<◌, ◌+◌, inl, inr, Contains, ℕ, zero, suc, true, false, leb, ltb, List, [], ◌∷◌, ◌++◌, Option, Some, None, refl, arith, eq-zero-or-pos, cases_Bool, IsPermutation, Contains-permutation, length_permutation, SleepPoll, PendingAt, IsOver, AnswersPending, Start, Event, Wake, Root, Round, Visit, Answered, Advance, Fire, process_task, task_fields, Entry, FinishCause, Completed, State, begun, after, after_all, Held, put, Gives, Steps, Value, nothing, IsRun, IsValidInput, small_begin, ready_root, Sleeper, sleeper_heard, sleeping_root, opening, visiting_root, still_asleep}
use Rattle.rt_audit.specs.declared.entry.Entry.TheVariants.{Call}
use Rattle.rt_model.specs.declared.answer.Answer.TheVariants.{Pending, Ready}
use Rattle.rt_laws.proofs.Completing.{Course, any, Completes, begins_known, making_gives, rounds, visiting, entered, visited, polling_gives, polling_sleeps, polling_wakes, fired, skips, woken}

-- there is one order of one number
one : (k x : ℕ) → Contains (x ∷ []) k → x ≡ k
one k x (zero, l, e) = e
one k x (suc i, l, e) = absurd (omega arith)

pub only : (k : ℕ) (order : List ℕ) → IsPermutation (k ∷ []) order → order ≡ k ∷ []
only k [] perm = let e = length_permutation (k ∷ []) [] perm in absurd (omega arith)
only k (x ∷ []) perm = rw (one k x (Contains-permutation (k ∷ []) (x ∷ []) k perm (0, omega arith, refl))) refl
only k (x ∷ y ∷ rest) perm = let e = length_permutation (k ∷ []) (x ∷ y ∷ rest) perm in absurd (omega arith)

-- a root that is made at once, in its first poll

abbrev pub with_state : {A O : Type 0} → A → Value A O
with_state root = record nothing { held = put 0 root nothing.held }

abbrev pub first_polled : State
first_polled = after_all (begun small_begin) (opening ++ visiting_root)

pub first_poll_known : {A O : Type 0} (p : Course A O) (root : A) → p.steps.first 0 ≡ Gives tt root → Completes p first_polled (with_state root) → (x : List Entry) (cause : FinishCause) (end : State) (value : Value A O) → IsRun p.steps small_begin x cause end value → p.Known (begun small_begin) x → cause ≡ Completed
unfolding begun after
first_poll_known {A = A} {O = O} p root makes more =
    let s1 = after (begun small_begin) (Start 0 0 None 1000000) in
    let s2 = after s1 (Root 0) in
    let s3 = after s2 (Round (0 ∷ [])) in
    let v : Value A O = with_state root in
    let now : Held A O = nothing.held in
    let visits : Completes p s3 v = visiting p s3 v refl 0 (0 ∷ []) [] refl refl tt (entered p (after s3 (Visit 0)) v refl 0 [] refl more) in
    begins_known p small_begin
    (making_gives p s1 nothing refl root now refl (makes, refl) tt
    (rounds p s2 v (inl refl) tt (λ order perm. rw (only 0 order perm) visits) refl refl))

pub first_poll : {A O : Type 0} (p : Steps A O) (root : A) → p.first 0 ≡ Gives tt root → Completes (any p) first_polled (with_state root) → IsValidInput p small_begin
first_poll p root makes more x cause end value r = first_poll_known (any p) root makes more x cause end value r tt

pub ready_valid : (number : ℕ) → IsValidInput (ready_root number) small_begin
unfolding begun after
ready_valid number =
    let p = any (ready_root number) in
    let now : Held (Unit {0}) ℕ = nothing.held in
    first_poll (ready_root number) tt refl (polling_gives p first_polled (with_state tt) refl 0 [] tt refl refl now (Ready number) tt refl (λ text e. cc) (refl, refl) (λ e. absurd (cc)))

-- a root that sleeps

-- in the clock step behind its first poll, at this time
abbrev pub asleep : ℕ → ℕ → State
asleep due time = after_all (begun small_begin) (opening ++ visiting_root ++ still_asleep due ++ (Advance time ∷ []))

abbrev pub with_root : ℕ → Option ℕ → Value Sleeper ℕ
with_root due alarm = with_state (record { due = due; alarm = alarm })

abbrev pub no_values : Held Sleeper ℕ
no_values = nothing.held

first-poll : (due : ℕ) → Completes (any (sleeping_root due)) first_polled (with_root due None) → IsValidInput (sleeping_root due) small_begin
first-poll due more =
    let none : 0 + due ≡ due = omega arith in
    first_poll (sleeping_root due) (record { due = due; alarm = None }) (rw none refl) more

falls-asleep : (due : ℕ) → 0 < due → Completes (any (sleeping_root due)) (asleep due 1000000) (with_root due (Some 0)) → Completes (any (sleeping_root due)) first_polled (with_root due None)
unfolding begun after
falls-asleep due later more =
    let p = any (sleeping_root due) in
    let root : Sleeper = record { due = due; alarm = None } in
    let s = after first_polled (Call (Some 0) (SleepPoll due) (PendingAt 0)) in
    let v = with_root due None in
    let w = with_root due (Some 0) in
    let steps : Completes p (after s (Answered 0 AnswersPending)) w = visited p (after s (Answered 0 AnswersPending)) w refl [] refl refl tt more in
    let answers : Completes p s v = polling_gives p s v refl 0 [] root refl refl no_values Pending (record { due = due; alarm = Some 0 }) refl (λ text e. cc) ((refl, refl), (refl, refl)) (λ e. steps) in
    polling_sleeps p first_polled v refl 0 [] root refl refl no_values due None (sleeper_heard root) (refl, refl) later answers

stays-awake : Completes (any (sleeping_root 0)) first_polled (with_root 0 None)
unfolding begun after
stays-awake =
    let p = any (sleeping_root 0) in
    let root : Sleeper = record { due = 0; alarm = None } in
    let s = after first_polled (Call (Some 0) (SleepPoll 0) IsOver) in
    let v = with_root 0 None in
    let answers : Completes p s v = polling_gives p s v refl 0 [] root refl refl no_values (Ready 0) root refl (λ text e. cc) ((refl, tt), (refl, refl)) (λ e. absurd (cc)) in
    polling_wakes p first_polled v refl 0 [] root refl refl no_values 0 None (sleeper_heard root) (refl, refl) (omega arith) answers

-- where its alarm goes off
wakes-up : (due time : ℕ) → due ≤ time → Completes (any (sleeping_root due)) (asleep due time) (with_root due (Some 0))
unfolding begun after
wakes-up due time late =
    let p = any (sleeping_root due) in
    let root : Sleeper = record { due = due; alarm = Some 0 } in
    let s1 = asleep due time in
    let s2 = after s1 (Fire 0) in
    let s3 = after s2 (Wake 0) in
    let s4 = after s3 (Round (0 ∷ [])) in
    let s5 = after s4 (Visit 0) in
    let s6 = after s5 (Event process_task (task_fields 0 [])) in
    let s7 = after s6 (Call (Some 0) (SleepPoll due) IsOver) in
    let v = with_root due (Some 0) in
    let over : ltb time due ≡ false = grind arith in
    let now : leb due time ≡ true = grind arith in
    let answers : Completes p s7 v = polling_gives p s7 v refl 0 [] root refl refl no_values (Ready 0) root refl (λ text e. cc) ((refl, tt), (refl, refl)) (λ e. absurd (cc)) in
    let polls : Completes p s6 v = polling_wakes p s6 v refl 0 [] root refl refl no_values due (Some 0) (sleeper_heard root) (refl, refl) late answers in
    let visits : Completes p s4 v = visiting p s4 v refl 0 (0 ∷ []) [] refl refl tt (entered p s5 v refl 0 [] refl polls) in
    let round : Completes p s3 v = rounds p s3 v (inr (refl, refl, refl)) tt (λ order perm. rw (only 0 order perm) visits) refl refl in
    fired p s1 v refl 0 refl (rw over refl) (rw now refl) (rw (over, now) tt) (woken p s2 v 0 [] refl (λ cause e. cc) round)

-- where the clock skips to it
skipped : (due : ℕ) → 1000000 < due → Completes (any (sleeping_root due)) (asleep due 1000000) (with_root due (Some 0))
unfolding begun after
skipped due later =
    let ahead : ltb 1000000 due ≡ true = grind arith in
    let early : leb due 1000000 ≡ false = grind arith in
    skips (any (sleeping_root due)) (asleep due 1000000) (with_root due (Some 0)) refl due refl refl (rw early refl) (rw ahead refl) (rw ahead tt) (wakes-up due due (omega arith))

pub sleeping_valid : (due : ℕ) → IsValidInput (sleeping_root due) small_begin
sleeping_valid due = elim (eq-zero-or-pos due) [
  | inl none ↦ rw none (first-poll 0 stays-awake)
  | inr later ↦ elim (cases_Bool (leb due 1000000)) [
    | inl soon ↦ first-poll due (falls-asleep due later (wakes-up due 1000000 (grind arith)))
    | inr late ↦ first-poll due (falls-asleep due later (skipped due (grind arith)))
  ]
]
