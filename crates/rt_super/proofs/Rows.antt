-- A list of places, and what the numbers have.
use Rattle.rt_super.proofs.Prelude.{◌≡◌, ◌<◌, ◌≤◌, ◌+◌, ◌-◌, ℕ, zero, suc, List, [], ◌∷◌, ◌++◌, refl, ap, ◌∙◌, false, arith, Option, Some, None, length, eqb, slice_get, slice_set, find, without, replaced, rows, AreRising, cases_Bool, slice_get_past, ◌⊎◌, inl, inr}

-- nothing stands for a number before the first
find-before : {V : Type 0} (k n : ℕ) (xs : List (Option V)) → n < k → find n (rows k xs) ≡ None
find-before k n [] h = refl
find-before k n (None ∷ xs) h = find-before (k + 1) n xs (omega (arith, h))
find-before k n (Some v ∷ xs) h = grind (arith, find-before (k + 1) n xs (omega (arith, h)))

find-some : {V : Type 0} (k n t : ℕ) (xs : List (Option V)) (p : Option V) → t ≡ k + n → slice_get xs n ≡ Some p → find t (rows k xs) ≡ p
find-some k n t [] p e h = cc
find-some k zero t (None ∷ xs) p e h = find-before (k + 1) t xs (omega arith) ∙ (cc)
find-some k zero t (Some v ∷ xs) p e h = grind arith
find-some k (suc n) t (None ∷ xs) p e h = find-some (k + 1) n t xs p (omega arith) h
find-some k (suc n) t (Some v ∷ xs) p e h =
    let f : eqb k t ≡ false = grind arith in
    rw f (find-some (k + 1) n t xs p (omega arith) h)

find-none : {V : Type 0} (k n t : ℕ) (xs : List (Option V)) → t ≡ k + n → slice_get xs n ≡ None → find t (rows k xs) ≡ None
find-none k n t [] e h = refl
find-none k zero t (x ∷ xs) e h = cc
find-none k (suc n) t (None ∷ xs) e h = find-none (k + 1) n t xs (omega arith) h
find-none k (suc n) t (Some v ∷ xs) e h =
    let f : eqb k t ≡ false = grind arith in
    rw f (find-none (k + 1) n t xs (omega arith) h)

-- what a place says of its number
pub get-some : {V : Type 0} (k t : ℕ) (xs : List (Option V)) (p : Option V) → k ≤ t → slice_get xs (t - k) ≡ Some p → find t (rows k xs) ≡ p
get-some k t xs p h g = find-some k (t - k) t xs p (omega (arith, h)) g

pub get-none : {V : Type 0} (k t : ℕ) (xs : List (Option V)) → k ≤ t → slice_get xs (t - k) ≡ None → find t (rows k xs) ≡ None
get-none k t xs h g = find-none k (t - k) t xs (omega (arith, h)) g

pub get-before : {V : Type 0} (k t : ℕ) (xs : List (Option V)) → t < k → find t (rows k xs) ≡ None
get-before k t xs h = find-before k t xs h

-- a number that has something has a place
pub has-place : {V : Type 0} (k t : ℕ) (xs : List (Option V)) (v : V) → find t (rows k xs) ≡ Some v → (k ≤ t) × (t - k < length xs)
has-place k t [] v h = cc
has-place k t (None ∷ xs) v h = let i = has-place (k + 1) t xs v h in (omega (arith, i.0), omega (arith, i.0, i.1))
has-place k t (Some w ∷ xs) v h = elim (cases_Bool (eqb k t)) [
  | inl e ↦ grind arith
  | inr e ↦ let i = has-place (k + 1) t xs v (grind arith) in (omega (arith, i.0), omega (arith, i.0, i.1))
]

replaced-at : {V : Type 0} (k n t : ℕ) (xs : List (Option V)) (old v : V) → t ≡ k + n → slice_get xs n ≡ Some (Some old) → rows k (slice_set xs n (Some v)) ≡ replaced (λ x. v) t (rows k xs)
replaced-at k n t [] old v e h = cc
replaced-at k zero t (None ∷ xs) old v e h = cc
replaced-at k zero t (Some w ∷ xs) old v e h = grind arith
replaced-at k (suc n) t (None ∷ xs) old v e h = replaced-at (k + 1) n t xs old v (omega arith) h
replaced-at k (suc n) t (Some w ∷ xs) old v e h =
    let f : eqb k t ≡ false = grind arith in
    rw f (ap (λ ys. (k, w) ∷ ys) (replaced-at (k + 1) n t xs old v (omega arith) h))

without-at : {V : Type 0} (k n t : ℕ) (xs : List (Option V)) (old : V) → t ≡ k + n → slice_get xs n ≡ Some (Some old) → rows k (slice_set xs n None) ≡ without t (rows k xs)
without-at k n t [] old e h = cc
without-at k zero t (None ∷ xs) old e h = cc
without-at k zero t (Some w ∷ xs) old e h = grind arith
without-at k (suc n) t (None ∷ xs) old e h = without-at (k + 1) n t xs old (omega arith) h
without-at k (suc n) t (Some w ∷ xs) old e h =
    let f : eqb k t ≡ false = grind arith in
    rw f (ap (λ ys. (k, w) ∷ ys) (without-at (k + 1) n t xs old (omega arith) h))

-- what a number has stands in its place
place-of : {V : Type 0} (k t : ℕ) (xs : List (Option V)) (v : V) → find t (rows k xs) ≡ Some v → k ≤ t → slice_get xs (t - k) ≡ Some (Some v)
place-of k t xs v h b = elim (cases_get xs (t - k)) [
  | inl g ↦ let e = get-some k t xs g.0 b g.1 in (cc)
  | inr g ↦ let e = get-none k t xs b g in absurd (cc)
]
  where
    cases_get : {X : Type 0} (ys : List X) (n : ℕ) → ((y : X) × (slice_get ys n ≡ Some y)) ⊎ (slice_get ys n ≡ None)
    cases_get [] n = inr refl
    cases_get (y ∷ ys) zero = inl (y, refl)
    cases_get (y ∷ ys) (suc n) = cases_get ys n

pub set-row : {V : Type 0} (k t : ℕ) (xs : List (Option V)) (old v : V) → find t (rows k xs) ≡ Some old → rows k (slice_set xs (t - k) (Some v)) ≡ replaced (λ x. v) t (rows k xs)
set-row k t xs old v h =
    let i = has-place k t xs old h in
    replaced-at k (t - k) t xs old v (omega (arith, i.0)) (place-of k t xs old h i.0)

pub without-row : {V : Type 0} (k t : ℕ) (xs : List (Option V)) (old : V) → find t (rows k xs) ≡ Some old → rows k (slice_set xs (t - k) None) ≡ without t (rows k xs)
without-row k t xs old h =
    let i = has-place k t xs old h in
    without-at k (t - k) t xs old (omega (arith, i.0)) (place-of k t xs old h i.0)

-- nothing changes where a number has nothing
pub replaced-none : {V : Type 0} (change : V → V) (t : ℕ) (xs : List (ℕ × V)) → find t xs ≡ None → replaced change t xs ≡ xs
replaced-none change t [] h = refl
replaced-none change t (x ∷ xs) h = grind (arith, replaced-none change t xs)

pub without-none : {V : Type 0} (t : ℕ) (xs : List (ℕ × V)) → find t xs ≡ None → without t xs ≡ xs
without-none t [] h = refl
without-none t (x ∷ xs) h = grind (arith, without-none t xs)

pub push-row : {V : Type 0} (k : ℕ) (xs : List (Option V)) (v : V) → rows k (xs ++ Some v ∷ []) ≡ rows k xs ++ (k + length xs, v) ∷ []
push-row k [] v = let e : k + 0 ≡ k = omega arith in rw e refl
push-row k (None ∷ xs) v =
    let e : k + suc (length xs) ≡ (k + 1) + length xs = omega arith in
    rw e (push-row (k + 1) xs v)
push-row k (Some w ∷ xs) v =
    let e : k + suc (length xs) ≡ (k + 1) + length xs = omega arith in
    rw e (ap (λ ys. (k, w) ∷ ys) (push-row (k + 1) xs v))

pub skip-row : {V : Type 0} (k : ℕ) (xs : List (Option V)) → rows k (xs ++ None ∷ []) ≡ rows k xs
skip-row k [] = refl
skip-row k (None ∷ xs) = skip-row (k + 1) xs
skip-row k (Some w ∷ xs) = ap (λ ys. (k, w) ∷ ys) (skip-row (k + 1) xs)

-- no number behind the last place has anything
pub get-past : {V : Type 0} (k t : ℕ) (xs : List (Option V)) → k + length xs ≤ t → find t (rows k xs) ≡ None
get-past k t xs h = find-none k (t - k) t xs (omega (arith, h)) (slice_get_past xs (t - k) (omega (arith, h)))

-- whoever is taken out is gone
row-gone : {V : Type 0} (k t : ℕ) (xs : List (Option V)) → find t (without t (rows k xs)) ≡ None
row-gone k t [] = refl
row-gone k t (None ∷ xs) = row-gone (k + 1) t xs
row-gone k t (Some v ∷ xs) = grind (arith, row-gone (k + 1) t xs, find-before (k + 1) t xs)

pub set-gone : {V : Type 0} (k t : ℕ) (xs : List (Option V)) (old : V) → find t (rows k xs) ≡ Some old → find t (rows k (slice_set xs (t - k) None)) ≡ None
set-gone k t xs old h = rw (without-row k t xs old h) (row-gone k t xs)

pub rows-rising : {V : Type 0} (k : ℕ) (xs : List (Option V)) → AreRising (rows k xs)
rows-rising k [] = tt
rows-rising k (None ∷ xs) = rows-rising (k + 1) xs
rows-rising k (Some v ∷ xs) = ((λ n h. find-before (k + 1) n xs (omega (arith, h))), rows-rising (k + 1) xs)

pub rows-few : {V : Type 0} (k : ℕ) (xs : List (Option V)) → length (rows k xs) ≤ length xs
rows-few k [] = omega arith
rows-few k (None ∷ xs) = omega (arith, rows-few (k + 1) xs)
rows-few k (Some v ∷ xs) = omega (arith, rows-few (k + 1) xs)

pub ruleset row_laws = (rows-rising, rows-few, get-past, set-gone, get-some, get-none, get-before, has-place, set-row, without-row, replaced-none, without-none, push-row, skip-row)
