-- Who is in, by places.
use Rattle.rt_world.proofs.Prelude.{◌≡◌, ◌≤◌, ◌<◌, ◌+◌, ℕ, zero, suc, List, [], ◌∷◌, ◌++◌, refl, true, false, arith, Option, Some, None, is_some, length, get_or, set, eqb, ◌∙◌, sym, option_eq, false≢true, is_some_number, find, without, with_task, ends_next, ends-runs, ends-none, seats_from, numbers_of, ArePassed}
use Rattle.rt_world.proofs.Seats.{find-some}

pub find-below : {A : Type 0} → (k n : ℕ) (ps : List (Option A)) → k < n → find k (seats_from n ps) ≡ None
find-below k n [] h = refl
find-below k n (None ∷ ps) h = grind (arith, find-below k (n + 1) ps)
find-below k n (Some a ∷ ps) h = grind (arith, find-below k (n + 1) ps)

pub find-place : {A : Type 0} → (k n i : ℕ) (ps : List (Option A)) → k ≡ n + i → find k (seats_from n ps) ≡ get_or ps i None
find-place k n i [] h = refl
find-place k n zero (None ∷ ps) h = grind (arith, find-below k (n + 1) ps)
find-place k n zero (Some a ∷ ps) h = grind (arith)
find-place k n (suc i) (None ∷ ps) h = grind (arith, find-place k (n + 1) i ps)
find-place k n (suc i) (Some a ∷ ps) h = grind (arith, find-place k (n + 1) i ps)

pub without-none : {A : Type 0} → (k : ℕ) (ts : List (ℕ × A)) → find k ts ≡ None → without k ts ≡ ts
without-none k [] h = refl
without-none k (t ∷ ts) h = grind (arith, without-none k ts)

pub without-place : {A : Type 0} → (k n i : ℕ) (ps : List (Option A)) → k ≡ n + i → without k (seats_from n ps) ≡ seats_from n (set ps i None)
without-place k n i [] h = refl
without-place k n zero (None ∷ ps) h = grind (arith, find-below k (n + 1) ps, without-none k (seats_from (n + 1) ps))
without-place k n zero (Some a ∷ ps) h = grind (arith)
without-place k n (suc i) (None ∷ ps) h = grind (arith, without-place k (n + 1) i ps)
without-place k n (suc i) (Some a ∷ ps) h = grind (arith, without-place k (n + 1) i ps)

pub with-below : {A : Type 0} → (k n : ℕ) (a : A) (ps : List (Option A)) → k < n → with_task k a (seats_from n ps) ≡ (k, a) ∷ seats_from n ps
with-below k n a [] h = refl
with-below k n a (None ∷ ps) h = grind (arith, with-below k (n + 1) a ps)
with-below k n a (Some b ∷ ps) h = grind (arith)

pub with-place : {A : Type 0} → (k n i : ℕ) (a : A) (ps : List (Option A)) → k ≡ n + i → i < length ps → get_or ps i None ≡ None → with_task k a (seats_from n ps) ≡ seats_from n (set ps i (Some a))
with-place k n i a [] h l e = absurd (omega arith)
with-place k n zero a (None ∷ ps) h l e = grind (arith, with-below k (n + 1) a ps)
with-place k n zero a (Some b ∷ ps) h l e = cc
with-place k n (suc i) a (None ∷ ps) h l e = grind (arith, with-place k (n + 1) i a ps)
with-place k n (suc i) a (Some b ∷ ps) h l e = grind (arith, with-place k (n + 1) i a ps)

pub with-next : {A : Type 0} → (k n : ℕ) (a : A) (ps : List (Option A)) → k ≡ n + length ps → with_task k a (seats_from n ps) ≡ seats_from n (ps ++ Some a ∷ [])
with-next k n a [] h = grind arith
with-next k n a (None ∷ ps) h = grind (arith, with-next k (n + 1) a ps)
with-next k n a (Some b ∷ ps) h = grind (arith, with-next k (n + 1) a ps)

passed-tail : {A : Type 0} → (last : Option ℕ) (n i : ℕ) (p : Option A) (ps : List (Option A)) → ArePassed last n (suc i) (p ∷ ps) → ArePassed last (n + 1) i ps
passed-tail last n i p ps h j l s = grind (arith, h (suc j))

other-number : (k : ℕ) (last : Option ℕ) → option_eq eqb last (Some k) ≡ false → is_some_number k last ≡ false
other-number k None h = refl
other-number k (Some j) h = grind arith

-- the first that is not passed ends next
pub ends-place : {A : Type 0} → (last : Option ℕ) (k n i : ℕ) (ps : List (Option A)) → k ≡ n + i → ArePassed last n i ps → is_some (get_or ps i None) ≡ true → option_eq eqb last (Some k) ≡ false → ends_next (numbers_of (seats_from n ps)) last ≡ Some k
ends-place last k n i [] e passed h other = cc
ends-place last k n zero (None ∷ ps) e passed h other = cc
ends-place last k n zero (Some a ∷ ps) e passed h other = grind (arith, other-number k last other)
ends-place last k n (suc i) (None ∷ ps) e passed h other = grind (arith, ends-place last k (n + 1) i ps, passed-tail last n i None ps passed)
ends-place last k n (suc i) (Some a ∷ ps) e passed h other = grind (arith, ends-place last k (n + 1) i ps, passed-tail last n i (Some a) ps passed, passed 0)

-- where all are passed, whoever is in is the last
only-last : {A : Type 0} → (last : Option ℕ) (k n i : ℕ) (ps : List (Option A)) → ArePassed last n i ps → length ps ≤ i → is_some (find k (seats_from n ps)) ≡ true → last ≡ Some k
only-last last k n i [] passed all h = cc
only-last last k n zero (p ∷ ps) passed all h = absurd (omega arith)
only-last last k n (suc i) (None ∷ ps) passed all h = only-last last k (n + 1) i ps (passed-tail last n i None ps passed) (omega arith) h
only-last last k n (suc i) (Some a ∷ ps) passed all h = grind (arith, only-last last k (n + 1) i ps, passed-tail last n i (Some a) ps passed, passed 0)

module _ {A : Type 0} (last : Option ℕ) (n i : ℕ) (ps : List (Option A)) (passed : ArePassed last n i ps) (all : length ps ≤ i) where
  ends-only : (k : ℕ) → ends_next (numbers_of (seats_from n ps)) last ≡ Some k → (last ≡ Some k) × (is_some (find k (seats_from n ps)) ≡ true)
  ends-only k e =
      let there = find-some k (seats_from n ps) ∙ ends-runs (numbers_of (seats_from n ps)) last k e in
      (only-last last k n i ps passed all there, there)

  ends-there : (o : Option ℕ) → ends_next (numbers_of (seats_from n ps)) last ≡ o → (k : ℕ) → is_some (find k (seats_from n ps)) ≡ true → o ≡ Some k
  ends-there None e k h = grind (arith, ends-none (numbers_of (seats_from n ps)) last e, find-some k (seats_from n ps))
  ends-there (Some j) e k h = sym (ends-only j e).0 ∙ only-last last k n i ps passed all h

  ends-gone : (o : Option ℕ) → ends_next (numbers_of (seats_from n ps)) last ≡ o → ((k : ℕ) → last ≡ Some k → is_some (find k (seats_from n ps)) ≡ false) → o ≡ None
  ends-gone None e h = refl
  ends-gone (Some j) e h = let only = ends-only j e in absurd (false≢true (sym (h j only.0) ∙ only.1))

  pub ends-last : (k : ℕ) → is_some (find k (seats_from n ps)) ≡ true → ends_next (numbers_of (seats_from n ps)) last ≡ Some k
  ends-last k h = ends-there (ends_next (numbers_of (seats_from n ps)) last) refl k h

  pub ends-never : ((k : ℕ) → last ≡ Some k → is_some (find k (seats_from n ps)) ≡ false) → ends_next (numbers_of (seats_from n ps)) last ≡ None
  ends-never h = ends-gone (ends_next (numbers_of (seats_from n ps)) last) refl h

-- places where nobody is in, the last of which goes
pub empty-front : {A : Type 0} → (n : ℕ) (ps : List (Option A)) (p : Option A) → seats_from n (ps ++ p ∷ []) ≡ [] → seats_from n ps ≡ []
empty-front n [] p h = refl
empty-front n (None ∷ ps) p h = empty-front (n + 1) ps p h
empty-front n (Some a ∷ ps) p h = cc

pub empty-last : {A : Type 0} → (n : ℕ) (ps : List (Option A)) (a : A) → seats_from n (ps ++ Some a ∷ []) ≡ [] → ⊥
empty-last n [] a h = cc
empty-last n (None ∷ ps) a h = empty-last (n + 1) ps a h
empty-last n (Some b ∷ ps) a h = cc

-- a number that nobody has
pub with-none : {A : Type 0} → (n : ℕ) (ps : List (Option A)) → seats_from n (ps ++ None ∷ []) ≡ seats_from n ps
with-none n [] = refl
with-none n (None ∷ ps) = with-none (n + 1) ps
with-none n (Some a ∷ ps) = grind (arith, with-none (n + 1) ps)

-- whoever is taken out is gone
pub without-gone : {A : Type 0} → (k n : ℕ) (ps : List (Option A)) → find k (without k (seats_from n ps)) ≡ None
without-gone k n [] = refl
without-gone k n (None ∷ ps) = without-gone k (n + 1) ps
without-gone k n (Some a ∷ ps) = grind (arith, without-gone k (n + 1) ps, find-below k (n + 1) ps)

pub ruleset place_laws = (with-none, without-gone, find-below, find-place, without-none, without-place, with-place, with-next)
