-- What a number has, changed.
use Rattle.rt_machine.proofs.Prelude.{◌≡◌, ℕ, List, refl, true, false, Some, None, Mark, TaskResult, find, replaced, flag, flagged, leave, with_abort, replaced-as, replaced-none}

pub flag-some : (k : ℕ) (ms : List (ℕ × Mark)) (m : Mark) → find k ms ≡ Some m → replaced (λ x. record { node = m.node; left = false; flagged = true }) k ms ≡ flag k ms
flag-some k ms m h = replaced-as flagged k ms m (record { node = m.node; left = false; flagged = true }) h refl

pub flag-none : (k : ℕ) (ms : List (ℕ × Mark)) → find k ms ≡ None → flag k ms ≡ ms
flag-none k ms h = replaced-none flagged k ms h

pub leave-some : (k : ℕ) (ms : List (ℕ × Mark)) (m : Mark) → find k ms ≡ Some m → replaced (λ x. record m { left = true }) k ms ≡ leave k ms
leave-some k ms m h = replaced-as (λ x. record x { left = true }) k ms m (record m { left = true }) h refl

pub leave-none : (k : ℕ) (ms : List (ℕ × Mark)) → find k ms ≡ None → leave k ms ≡ ms
leave-none k ms h = replaced-none (λ x. record x { left = true }) k ms h

pub abort-some : (k : ℕ) (rs : List (ℕ × TaskResult)) (r : TaskResult) → find k rs ≡ Some r → replaced (λ x. record { outcome = r.outcome; aborted = true }) k rs ≡ with_abort k rs
abort-some k rs r h = replaced-as (λ x. record x { aborted = true }) k rs r (record r { aborted = true }) h refl

pub abort-none : (k : ℕ) (rs : List (ℕ × TaskResult)) → find k rs ≡ None → with_abort k rs ≡ rs
abort-none k rs h = replaced-none (λ x. record x { aborted = true }) k rs h

pub ruleset change_laws = (flag-some, flag-none, leave-some, leave-none, abort-some, abort-none)
