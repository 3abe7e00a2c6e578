-- The inputs of the roots that draw are valid.
use Rattle.rt_laws.proofs.Prelude.{◌≡◌, inr, Contains, ℕ, zero, suc, List, [], ◌∷◌, Some, codes, refl, arith, IsPermutation, IsPermutation-sym, Contains-permutation, length_permutation, WakeCall, NextU64, FillBytes, Auditor, Done, Number, Bytes, AnswersPending, Event, Wake, Round, Visit, Answered, Advance, State, begun, after, after_all, Held, Plainly, Does, Gives, Steps, Value, nothing, IsValidInput, small_begin, visiting_root, Early, Late, number_of, drawing_root, asking_root}
use Rattle.rt_audit.specs.declared.entry.Entry.TheVariants.{Call}
use Rattle.rt_model.specs.declared.answer.Answer.TheVariants.{Pending, Ready}
use Rattle.rt_laws.proofs.Completing.{Course, any, Completes, rounds, visiting, entered, visited, polling_does, polling_gives, woken}
use Rattle.rt_laws.proofs.Announcing.{polling_announces, wake_told, number_told, bytes_told, digest_told}
use Rattle.rt_laws.proofs.Valid.{with_state, first_polled, first_poll}

-- the root that wakes itself twice in its first poll, and draws in its second

-- there is one order of the same number twice
same : (k x : ℕ) → Contains (k ∷ k ∷ []) x → k ≡ x
same k x (zero, l, e) = e
same k x (suc zero, l, e) = e
same k x (suc (suc i), l, e) = absurd (omega arith)

twice : (k : ℕ) (order : List ℕ) → IsPermutation (k ∷ k ∷ []) order → order ≡ k ∷ k ∷ []
twice k [] perm = let e = length_permutation (k ∷ k ∷ []) [] perm in absurd (omega arith)
twice k (x ∷ []) perm = let e = length_permutation (k ∷ k ∷ []) (x ∷ []) perm in absurd (omega arith)
twice k (x ∷ y ∷ []) perm =
    let back = IsPermutation-sym (k ∷ k ∷ []) (x ∷ y ∷ []) perm in
    let first = same k x (Contains-permutation (x ∷ y ∷ []) (k ∷ k ∷ []) x back (0, omega arith, refl)) in
    let second = same k y (Contains-permutation (x ∷ y ∷ []) (k ∷ k ∷ []) y back (1, omega arith, refl)) in
    rw (← first, ← second) refl
twice k (x ∷ y ∷ z ∷ rest) perm = let e = length_permutation (k ∷ k ∷ []) (x ∷ y ∷ z ∷ rest) perm in absurd (omega arith)

abbrev no_values : {A : Type 0} → Held A ℕ
no_values = nothing.held

-- behind its two wakes
abbrev woken_twice : State
woken_twice = after_all first_polled (Call (Some 0) (WakeCall 0) Done ∷ Wake 0 ∷ Call (Some 0) (WakeCall 0) Done ∷ Wake 0 ∷ [])

-- behind its first visit
abbrev waiting : State
waiting = after_all woken_twice (Answered 0 AnswersPending ∷ Advance 1000000 ∷ [])

abbrev polled_again : State
polled_again = after_all waiting (Round (0 ∷ 0 ∷ []) ∷ visiting_root)

abbrev drew : ℕ → State
drew number = after_all polled_again (Event (codes "rand") (codes "next_u64" ∷ []) ∷ Call (Some 0) NextU64 (Number number) ∷ [])

gives_drawn : (number : ℕ) → Completes (any drawing_root) (drew number) (with_state Late)
unfolding begun after
gives_drawn number =
    let p = any drawing_root in
    let v = with_state Late in
    let s = after (drew number) (Event (codes "rand") (codes "fill_bytes" ∷ [])) in
    let gives : (bytes : List ℕ) → Completes p (after s (Call (Some 0) (FillBytes 4) (Bytes bytes))) v = λ bytes. polling_gives p (after s (Call (Some 0) (FillBytes 4) (Bytes bytes))) v refl 0 (0 ∷ []) Late refl refl no_values (Ready number) Late refl (λ text e. cc) ((refl, tt), ((refl, tt), (refl, refl))) (λ e. absurd (cc)) in
    polling_announces p (drew number) v refl refl 0 (0 ∷ []) Late refl refl no_values (Plainly (FillBytes 4)) (λ filled. Gives (Ready number) Late) (codes "rand") (codes "fill_bytes" ∷ []) ((refl, tt), (refl, refl)) (λ stood reply. refl)
    (bytes_told p s v (Some 0) 4 (λ bytes four. gives bytes))

draws_again : Completes (any drawing_root) polled_again (with_state Late)
unfolding begun after
draws_again =
    let p = any drawing_root in
    let v = with_state Late in
    polling_announces p polled_again v refl refl 0 (0 ∷ []) Late refl refl no_values (Plainly NextU64) (λ drawn. Does (Plainly (FillBytes 4)) (λ filled. Gives (Ready (number_of drawn)) Late)) (codes "rand") (codes "next_u64" ∷ []) (refl, refl) (λ stood reply. refl)
    (number_told p (after polled_again (Event (codes "rand") (codes "next_u64" ∷ []))) v (Some 0) (λ number fits. gives_drawn number))

waits : Completes (any drawing_root) woken_twice (with_state Early)
unfolding begun after
waits =
    let p = any drawing_root in
    let v = with_state Late in
    let visits : Completes p (after waiting (Round (0 ∷ 0 ∷ []))) v = visiting p (after waiting (Round (0 ∷ 0 ∷ []))) v refl 0 (0 ∷ 0 ∷ []) (0 ∷ []) refl refl tt (entered p (after_all waiting (Round (0 ∷ 0 ∷ []) ∷ Visit 0 ∷ [])) v refl 0 (0 ∷ []) refl draws_again) in
    let round : Completes p waiting v = rounds p waiting v (inr (refl, refl, refl)) tt (λ order perm. rw (twice 0 order perm) visits) refl refl in
    let steps : Completes p (after woken_twice (Answered 0 AnswersPending)) v = visited p (after woken_twice (Answered 0 AnswersPending)) v refl [] refl refl tt round in
    polling_gives p woken_twice (with_state Early) refl 0 [] Early refl refl no_values Pending Late refl (λ text e. cc) ((refl, tt), ((refl, tt), (refl, refl))) (λ e. steps)

wakes : Completes (any drawing_root) first_polled (with_state Early)
unfolding begun after
wakes =
    let p = any drawing_root in
    let v = with_state Early in
    let s1 = first_polled in
    let s2 = after s1 (Call (Some 0) (WakeCall 0) Done) in
    let s3 = after s2 (Wake 0) in
    let s4 = after s3 (Call (Some 0) (WakeCall 0) Done) in
    let second : Completes p s3 v = polling_does p s3 v refl 0 [] Early refl refl no_values (Plainly (WakeCall 0)) (λ second. Gives Pending Late) ((refl, tt), (refl, refl)) (λ stood reply. refl) (wake_told p s3 v (Some 0) 0 (omega arith, omega arith) (woken p s4 v 0 [] refl (λ cause e. cc) waits)) in
    polling_does p s1 v refl 0 [] Early refl refl no_values (Plainly (WakeCall 0)) (λ first. Does (Plainly (WakeCall 0)) (λ second. Gives Pending Late)) (refl, refl) (λ stood reply. refl) (wake_told p s1 v (Some 0) 0 (omega arith, omega arith) (woken p s2 v 0 [] refl (λ cause e. cc) second))

pub drawing_valid : IsValidInput drawing_root small_begin
drawing_valid = first_poll drawing_root Early refl wakes

-- the root that draws bytes in its first poll, and asks an auditor

module _ (len : ℕ) where
  abbrev p : Course (Unit {0}) ℕ
  p = any (asking_root len)

  abbrev v : Value (Unit {0}) ℕ
  v = with_state tt

  -- behind the event of its draw
  abbrev announced : State
  announced = after first_polled (Event (codes "rand") (codes "fill_bytes" ∷ []))

  asks : (bytes : List ℕ) → Completes p (after announced (Call (Some 0) (FillBytes len) (Bytes bytes))) v
  unfolding begun after
  asks bytes =
      let s = after announced (Call (Some 0) (FillBytes len) (Bytes bytes)) in
      let gives : (digest : List ℕ) → Completes p (after s (Call (Some 0) Auditor (Bytes digest))) v = λ digest. polling_gives p (after s (Call (Some 0) Auditor (Bytes digest))) v refl 0 [] tt refl refl no_values (Ready len) tt refl (λ text e. cc) ((refl, tt), ((refl, tt), (refl, refl))) (λ e. absurd (cc)) in
      polling_does p s v refl 0 [] tt refl refl no_values (Plainly Auditor) (λ told. Gives (Ready len) tt) ((refl, tt), (refl, refl)) (λ stood reply. refl) (digest_told p s v (Some 0) (λ digest four. gives digest))

  fills : Completes p first_polled v
  unfolding begun after
  fills =
      polling_announces p first_polled v refl refl 0 [] tt refl refl no_values (Plainly (FillBytes len)) (λ filled. Does (Plainly Auditor) (λ told. Gives (Ready len) tt)) (codes "rand") (codes "fill_bytes" ∷ []) (refl, refl) (λ stood reply. refl)
      (bytes_told p announced v (Some 0) len (λ bytes exact. asks bytes))

  pub asking_valid : IsValidInput (asking_root len) small_begin
  asking_valid = first_poll (asking_root len) tt refl fills
