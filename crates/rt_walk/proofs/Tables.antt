-- A row that is changed is a row that is replaced by what it changes to.
use Rattle.rt_walk.proofs.Prelude.{◌≡◌, ◌<◌, ◌++◌, ℕ, zero, suc, List, [], ◌∷◌, refl, ap, Some, None, arith, eq-eqb, length, take, drop, get_or, find, replaced}
use Rattle.std.proofs.Common.{slice_set}

pub replaced-found : {V : Type 0} → (change : V → V) (k : ℕ) (v : V) (xs : List (ℕ × V)) → find k xs ≡ Some v → replaced (λ _. change v) k xs ≡ replaced change k xs
replaced-found change k v [] h = refl
replaced-found change k v (x ∷ xs) h = grind (arith, replaced-found change k v xs)

pub replaced-none : {V : Type 0} → (change : V → V) (k : ℕ) (xs : List (ℕ × V)) → find k xs ≡ None → replaced change k xs ≡ xs
replaced-none change k [] h = refl
replaced-none change k (x ∷ xs) h = grind (arith, replaced-none change k xs)

pub replaced-at : {V : Type 0} → (xs : List (ℕ × V)) (i k : ℕ) (v : V) (d : ℕ × V) → i < length xs → (get_or xs i d).0 ≡ k → slice_set xs i (k, v) ≡ take i xs ++ replaced (λ _. v) k (drop i xs)
replaced-at [] i k v d h p = absurd (omega arith)
replaced-at (x ∷ xs) zero k v d h p = let e = eq-eqb x.0 k p in rw e refl
replaced-at (x ∷ xs) (suc i) k v d h p = ap (λ ys. x ∷ ys) (replaced-at xs i k v d (omega arith) p)

pub ruleset table_laws = (replaced-found, replaced-none, replaced-at)
