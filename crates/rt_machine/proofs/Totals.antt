-- The places that marks and results hold, when one is changed.
use Rattle.rt_machine.proofs.Prelude.{◌≡◌, ◌≤◌, ◌+◌, ℕ, List, [], ◌∷◌, refl, true, false, Bool, arith, is_some, length, if◌then◌else◌, Mark, TaskResult, find, without, total, flag, flag_all, leave, is_left, may_abort, with_abort, ones, mark_places, result_places, marks_ended, settle-places, waits-places, join-places, more-places, is_new}

pub flag-places : (k : ℕ) (ms : List (ℕ × Mark)) → total mark_places (flag k ms) + ones (is_left (find k ms)) ≡ total mark_places ms
flag-places k [] = refl
flag-places k (m ∷ ms) = grind (arith, flag-places k ms)

pub leave-places : (k : ℕ) (ms : List (ℕ × Mark)) → total mark_places (leave k ms) ≡ total mark_places ms + ones (is_new (find k ms))
leave-places k [] = refl
leave-places k (m ∷ ms) = grind (arith, leave-places k ms)

pub abort-places : (k : ℕ) (rs : List (ℕ × TaskResult)) → may_abort (find k rs) ≡ true → total result_places (with_abort k rs) + 1 ≡ total result_places rs
abort-places k [] h = cc
abort-places k (r ∷ rs) h = grind (arith, abort-places k rs)

pub without-fewer : {V : Type 0} (f : V → ℕ) (k : ℕ) (xs : List (ℕ × V)) → total f (without k xs) ≤ total f xs
without-fewer f k [] = omega arith
without-fewer f k (x ∷ xs) = grind (arith, without-fewer f k xs)

find-flagged : (j k : ℕ) (ms : List (ℕ × Mark)) → is_some (find j ms) ≡ true → is_some (find j (flag k ms)) ≡ true
find-flagged j k [] h = cc
find-flagged j k (m ∷ ms) h = grind (arith, find-flagged j k ms)

-- a mark stays while others are flagged
pub has-flagged : (j : ℕ) (ks : List ℕ) (ms : List (ℕ × Mark)) → is_some (find j ms) ≡ true → is_some (find j (flag_all ks ms)) ≡ true
has-flagged j [] ms h = h
has-flagged j (k ∷ ks) ms h = has-flagged j ks (flag k ms) (find-flagged j k ms h)

pub without-one : (k : ℕ) (ms : List (ℕ × Mark)) → is_some (find k ms) ≡ true → total mark_places (without k ms) + 1 ≤ total mark_places ms
without-one k [] h = cc
without-one k (m ∷ ms) h = grind (arith, without-one k ms)

-- the marks that stay when a task ends
pub ended-fewer : (settles : Bool) (k : ℕ) (ms : List (ℕ × Mark)) → total mark_places (marks_ended settles k ms) ≤ total mark_places ms
ended-fewer true k ms = without-fewer mark_places k ms
ended-fewer false k ms = omega arith

-- whoever is woken where no cleanup has begun
pub owed-fewer : (closing : Bool) (ns : List ℕ) → length (if closing then [] else ns) ≤ length ns
owed-fewer true ns = omega arith
owed-fewer false ns = omega arith

pub ruleset place_laws = (flag-places, leave-places, abort-places, settle-places, waits-places, join-places, without-fewer, more-places)
