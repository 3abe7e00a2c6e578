-- A list in order is the only one of its permutations that is.
use Rattle.rt_walk.proofs.Prelude.{◌≡◌, ◌≤◌, ◌<◌, ◌+◌, ℕ, suc, Bool, List, [], ◌∷◌, refl, ap, sym, length, get_or, arith, eqb, if◌then◌else◌, ◌↔◌, IsTrue, pointwise, sum_by, IsPermutation, IsNonDecreasing, IsSorted, nat_cmp, Decides-eqb, sum_by-cons, sum_by-IsPermutation, IsPermutation-sym, IsPermutation-trans, IsNonDecreasingBy-from_sort, slice_eq-Decides}

-- each element is at most those behind it
abbrev AtMost : ℕ → List ℕ → Type 0
AtMost k [] = Unit {0}
AtMost k (x ∷ xs) = (k ≤ x) × AtMost k xs

abbrev Ascends : List ℕ → Type 0
Ascends [] = Unit {0}
Ascends (x ∷ xs) = AtMost x xs × Ascends xs

at-most : (k : ℕ) (xs : List ℕ) → ((i : ℕ) → i < length xs → k ≤ get_or xs i 0) → AtMost k xs
at-most k [] h = tt
at-most k (x ∷ xs) h = (h 0 (omega arith), at-most k xs (λ i l. h (suc i) (omega arith)))

ascends : (xs : List ℕ) → IsNonDecreasing xs → Ascends xs
ascends [] h = tt
ascends (x ∷ xs) h = (
  at-most x xs (λ i l. h 0 (suc i) 0 (omega arith) (omega arith)),
  ascends xs (λ i j d l m. h (suc i) (suc j) d (omega arith) (omega arith)),
)

-- how often a number stands in a list
abbrev is_it : ℕ → ℕ → ℕ
is_it k x = if eqb x k then 1 else 0

-- a number that stands in a list is no less than what is at most each of it
no-less : (k m : ℕ) (xs : List ℕ) → AtMost k xs → 0 < sum_by (is_it m) xs → k ≤ m
no-less k m [] h l = absurd (omega arith)
no-less k m (x ∷ xs) h l =
    let e : sum_by (is_it m) (x ∷ xs) ≡ is_it m x + sum_by (is_it m) xs = sum_by-cons (is_it m) x xs in
    grind (arith, no-less k m xs h.1)

stands : (k : ℕ) (xs : List ℕ) → 0 < sum_by (is_it k) (k ∷ xs)
stands k xs =
    let e : sum_by (is_it k) (k ∷ xs) ≡ is_it k k + sum_by (is_it k) xs = sum_by-cons (is_it k) k xs in
    grind arith

-- lists in order in which each number stands equally often are one
one : (xs ys : List ℕ) → Ascends xs → Ascends ys → ((k : ℕ) → sum_by (is_it k) xs ≡ sum_by (is_it k) ys) → xs ≡ ys
one [] [] h j e = refl
one [] (y ∷ ys) h j e = let s = stands y ys in let f = e y in absurd (omega arith)
one (x ∷ xs) [] h j e = let s = stands x xs in let f = e x in absurd (omega arith)
one (x ∷ xs) (y ∷ ys) h j e =
    let s = stands y ys in
    let t = stands x xs in
    let below : x ≤ y = no-less x y (x ∷ xs) (omega arith, h.0) (rw (e y) s) in
    let above : y ≤ x = no-less y x (y ∷ ys) (omega arith, j.0) (rw (← e x) t) in
    let same : x ≡ y = omega arith in
    let rest : (k : ℕ) → sum_by (is_it k) xs ≡ sum_by (is_it k) ys =
    λ k. let a = sum_by-cons (is_it k) x xs in let b = sum_by-cons (is_it k) y ys in let c = e k in let d : is_it k x ≡ is_it k y = ap (is_it k) same in omega arith in
    let tails = one xs ys h.1 j.1 rest in
    cc

sorted-one : (xs ys : List ℕ) → IsPermutation xs ys → IsSorted nat_cmp xs → IsSorted nat_cmp ys → xs ≡ ys
sorted-one xs ys p s t =
    one xs ys (ascends xs (IsNonDecreasingBy-from_sort (λ x. x) xs s)) (ascends ys (IsNonDecreasingBy-from_sort (λ x. x) ys t))
    (λ k. sym (sum_by-IsPermutation (is_it k) xs ys p))

-- permutations of two lists in order: they are one list exactly where the two are permutations of one another
permutation-sorted : (xs ys us vs : List ℕ) → IsPermutation xs us → IsPermutation ys vs → IsSorted nat_cmp us → IsSorted nat_cmp vs → (us ≡ vs) ↔ IsPermutation xs ys
permutation-sorted xs ys us vs p q s t = (
  λ e. IsPermutation-trans xs us ys p (rw e (IsPermutation-sym ys vs q)),
  λ r. sorted-one us vs (IsPermutation-trans us xs vs (IsPermutation-sym xs us p) (IsPermutation-trans xs ys vs r q)) s t,
)

pub permutation-decides : (xs ys us vs : List ℕ) (r : Bool) → IsPermutation xs us → IsPermutation ys vs → IsSorted nat_cmp us → IsSorted nat_cmp vs → r ≡ pointwise eqb us vs → IsTrue r ↔ IsPermutation xs ys
permutation-decides xs ys us vs r p q s t e =
    let d = permutation-sorted xs ys us vs p q s t in
    let w = slice_eq-Decides Decides-eqb us vs r e in
    (λ h. d.0 (w.0 h), λ h. w.1 (d.1 h))
