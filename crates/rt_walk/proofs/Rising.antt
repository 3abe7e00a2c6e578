-- Rising numbers: where one stands, comes in or goes out.
use Rattle.rt_walk.proofs.Prelude.{◌≡◌, ◌≢◌, ◌<◌, ◌≤◌, ◌+◌, ◌-◌, sym, ap, refl, arith, ℕ, zero, suc, true, false, eqb, ltb, List, [], ◌∷◌, length, get_or, Result, Ok, Err, is_ok, ◌⊎◌, inl, inr, insert, remove, nat_cmp, IsBinarySearchResult, cases_Bool, nat_tests, searched, has_number, with_number, without_number, AreFrom, AreRising}

from-lower : (x y : ℕ) (xs : List ℕ) → x ≤ y → AreFrom y xs → AreFrom x xs
from-lower x y [] h f = tt
from-lower x y (z ∷ xs) h f = (omega (arith, h, f.0), from-lower x y xs h f.1)

from-at : (x : ℕ) (xs : List ℕ) (j : ℕ) → AreFrom x xs → j < length xs → x ≤ get_or xs j 0
from-at x [] j f h = absurd (omega (arith, h))
from-at x (y ∷ xs) zero f h = f.0
from-at x (y ∷ xs) (suc j) f h = from-at x xs j f.1 (omega (arith, h))

rising-at : (xs : List ℕ) → AreRising xs → (i j : ℕ) → i ≤ j → j < length xs → get_or xs i 0 ≤ get_or xs j 0
rising-at [] r i j h l = absurd (omega (arith, l))
rising-at (x ∷ xs) r zero zero h l = omega arith
rising-at (x ∷ xs) r zero (suc j) h l = from-at x xs j r.0 (omega (arith, l))
rising-at (x ∷ xs) r (suc i) zero h l = absurd (omega (arith, h))
rising-at (x ∷ xs) r (suc i) (suc j) h l = rising-at xs r.1 i j (omega (arith, h)) (omega (arith, l))

from-with : (x k : ℕ) (xs : List ℕ) → x ≤ k → AreFrom x xs → AreFrom x (with_number k xs)
from-with x k [] h f = (h, tt)
from-with x k (y ∷ xs) h f = elim (cases_Bool (ltb k y)) [
  | inl e ↦ rw e (h, f)
  | inr e ↦ rw e (f.0, from-with x k xs h f.1)
]

pub rising-with : (k : ℕ) (xs : List ℕ) → AreRising xs → AreRising (with_number k xs)
rising-with k [] r = (tt, tt)
rising-with k (x ∷ xs) r = elim (cases_Bool (ltb k x)) [
  | inl e ↦ let h : k ≤ x = grind (arith, nat_tests) in rw e ((h, from-lower k x xs h r.0), r)
  | inr e ↦ let h : x ≤ k = grind (arith, nat_tests) in rw e (from-with x k xs h r.0, rising-with k xs r.1)
]

from-without : (x k : ℕ) (xs : List ℕ) → AreFrom x xs → AreFrom x (without_number k xs)
from-without x k [] f = tt
from-without x k (y ∷ xs) f = elim (cases_Bool (eqb y k)) [
  | inl e ↦ rw e f.1
  | inr e ↦ rw e (f.0, from-without x k xs f.1)
]

pub rising-without : (k : ℕ) (xs : List ℕ) → AreRising xs → AreRising (without_number k xs)
rising-without k [] r = tt
rising-without k (x ∷ xs) r = elim (cases_Bool (eqb x k)) [
  | inl e ↦ rw e r.1
  | inr e ↦ rw e (from-without x k xs r.0, rising-without k xs r.1)
]

has-at : (k i : ℕ) (xs : List ℕ) → i < length xs → get_or xs i 0 ≡ k → has_number k xs ≡ true
has-at k i [] h e = absurd (omega (arith, h))
has-at k zero (x ∷ xs) h e = let f : eqb x k ≡ true = grind (arith, nat_tests) in rw f refl
has-at k (suc i) (x ∷ xs) h e = elim (cases_Bool (eqb x k)) [
  | inl f ↦ rw f refl
  | inr f ↦ rw f (has-at k i xs (omega (arith, h)) e)
]

has-no : (k : ℕ) (xs : List ℕ) → ((j : ℕ) → j < length xs → get_or xs j 0 ≢ k) → has_number k xs ≡ false
has-no k [] h = refl
has-no k (x ∷ xs) h = elim (cases_Bool (eqb x k)) [
  | inl f ↦ let e : x ≡ k = grind (arith, nat_tests) in absurd (h 0 (omega arith) e)
  | inr f ↦ rw f (has-no k xs (λ j l. h (suc j) (omega (arith, l))))
]

-- a binary search finds whether a number is there
pub search-finds : (k : ℕ) (xs : List ℕ) (r : Result ℕ ℕ) → AreRising xs → IsBinarySearchResult (λ y. nat_cmp y k) xs r → is_ok r ≡ has_number k xs
search-finds k xs (Ok i) rises found =
    let at = searched xs k (Ok i) found (rising-at xs rises) in
    sym (has-at k i xs at.0 at.1)
search-finds k xs (Err i) rises found =
    let at = searched xs k (Err i) found (rising-at xs rises) in
    sym (has-no k xs (λ j l e. elim (before j i) [
      | inl b ↦ let m = at.1 j b in absurd (omega (arith, m, e))
      | inr b ↦ let m = at.2 j b l in absurd (omega (arith, m, e))
    ]))
  where
    before : (j i : ℕ) → (j < i) ⊎ (i ≤ j)
    before j zero = inr (omega arith)
    before zero (suc i) = inl (omega arith)
    before (suc j) (suc i) = elim (before j i) [ inl b ↦ inl (omega (arith, b)) | inr b ↦ inr (omega (arith, b)) ]

-- a number comes in behind those that aren't above it
pub with-at : (k i : ℕ) (xs : List ℕ) → i ≤ length xs → ((j : ℕ) → j < i → get_or xs j 0 ≤ k) → ((j : ℕ) → i ≤ j → j < length xs → k < get_or xs j 0) → insert xs i k ≡ with_number k xs
with-at k zero [] h low high = refl
with-at k (suc i) [] h low high = absurd (omega (arith, h))
with-at k zero (x ∷ xs) h low high =
    let b = high 0 (omega arith) (omega arith) in
    let e : ltb k x ≡ true = grind (arith, nat_tests) in
    rw e refl
with-at k (suc i) (x ∷ xs) h low high =
    let b = low 0 (omega arith) in
    let e : ltb k x ≡ false = grind (arith, nat_tests) in
    rw e (ap (λ ys. x ∷ ys) (with-at k i xs (omega (arith, h)) (λ j l. low (suc j) (omega (arith, l))) (λ j m l. high (suc j) (omega (arith, m)) (omega (arith, l)))))

-- a run of equal numbers, with one of them gone
run-without : (k i : ℕ) (xs : List ℕ) → i < length xs → ((j : ℕ) → j < i + 1 → get_or xs j 0 ≡ k) → k ∷ remove xs i ≡ xs
run-without k i [] h same = absurd (omega (arith, h))
run-without k zero (x ∷ xs) h same = let e : x ≡ k = same 0 (omega arith) in rw e refl
run-without k (suc i) (x ∷ xs) h same =
    let e : x ≡ k = same 0 (omega arith) in
    rw e (ap (λ ys. k ∷ ys) (run-without k i xs (omega (arith, h)) (λ j l. same (suc j) (omega (arith, l)))))

pub remove-at : (k i : ℕ) (xs : List ℕ) → AreRising xs → i < length xs → get_or xs i 0 ≡ k → remove xs i ≡ without_number k xs
remove-at k i [] r h e = absurd (omega (arith, h))
remove-at k zero (x ∷ xs) r h e = let f : eqb x k ≡ true = grind (arith, nat_tests) in rw f refl
remove-at k (suc i) (x ∷ xs) r h e = elim (cases_Bool (eqb x k)) [
  | inl f ↦
      let same : x ≡ k = grind (arith, nat_tests) in
      let tail = run-without k i xs (omega (arith, h)) (λ j l. between j l same) in
      rw (f, same) tail
  | inr f ↦ rw f (ap (λ ys. x ∷ ys) (remove-at k i xs r.1 (omega (arith, h)) e))
]
  where
    between : (j : ℕ) → j < i + 1 → x ≡ k → get_or xs j 0 ≡ k
    between j l same =
        let low = from-at x xs j r.0 (omega (arith, l, h)) in
        let high = rising-at xs r.1 j i (omega (arith, l)) (omega (arith, h)) in
        omega (arith, low, high, same, e)

-- where it was found
pub remove-found : (k i : ℕ) (xs : List ℕ) → AreRising xs → IsBinarySearchResult (λ y. nat_cmp y k) xs (Ok i) → remove xs i ≡ without_number k xs
remove-found k i xs rises found =
    let at = searched xs k (Ok i) found (rising-at xs rises) in
    remove-at k i xs rises at.0 at.1

without-gone : (k : ℕ) (xs : List ℕ) → has_number k xs ≡ false → without_number k xs ≡ xs
without-gone k [] h = refl
without-gone k (x ∷ xs) h = grind (arith, without-gone k xs)

-- and where it wasn't
pub without-missed : (k i : ℕ) (xs : List ℕ) → AreRising xs → IsBinarySearchResult (λ y. nat_cmp y k) xs (Err i) → without_number k xs ≡ xs
without-missed k i xs rises found = without-gone k xs (sym (search-finds k xs (Err i) rises found))

-- those before a place aren't above what isn't above the last of them
all-below : (k i : ℕ) (xs : List ℕ) → AreRising xs → i < length xs → get_or xs i 0 ≤ k → (j : ℕ) → j < i + 1 → get_or xs j 0 ≤ k
all-below k i xs rises h low j l = let at = rising-at xs rises j i (omega (arith, l)) h in omega (arith, at, low)

get-any : (i d e : ℕ) (xs : List ℕ) → i < length xs → get_or xs i d ≡ get_or xs i e
get-any i d e [] h = absurd (omega (arith, h))
get-any zero d e (x ∷ xs) h = refl
get-any (suc i) d e (x ∷ xs) h = get-any i d e xs (omega (arith, h))

-- those up to one that was read and isn't above a number aren't either
pub behind-read : (k i v : ℕ) (xs : List ℕ) → AreRising xs → 0 < i → i ≤ length xs → v ≡ get_or xs (i - 1) v → v ≤ k → (j : ℕ) → j < i → get_or xs j 0 ≤ k
behind-read k i v xs rises some h read low j l =
    let same = get-any (i - 1) v 0 xs (omega (arith, some, h)) in
    all-below k (i - 1) xs rises (omega (arith, some, h)) (omega (arith, read, same, low)) j (omega (arith, some, l))
