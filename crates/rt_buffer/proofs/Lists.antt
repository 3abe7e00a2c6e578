-- Lists with one element set.
use Rattle.rt_buffer.proofs.Prelude.{◌≡◌, ◌≢◌, ℕ, zero, suc, List, [], ◌∷◌, slice_set, slice_get, Some, refl, ap}

pub set_here : {A : Type 0} (xs : List A) (i : ℕ) (old new : A) → slice_get xs i ≡ Some old → slice_get (slice_set xs i new) i ≡ Some new
set_here [] i old new e = absurd (cc)
set_here (x ∷ xs) zero old new e = refl
set_here (x ∷ xs) (suc i) old new e = set_here xs i old new e

pub set_other : {A : Type 0} (xs : List A) (i j : ℕ) (new : A) → i ≢ j → slice_get (slice_set xs i new) j ≡ slice_get xs j
set_other [] i j new other = refl
set_other (x ∷ xs) zero zero new other = absurd (other refl)
set_other (x ∷ xs) zero (suc j) new other = refl
set_other (x ∷ xs) (suc i) zero new other = refl
set_other (x ∷ xs) (suc i) (suc j) new other = set_other xs i j new (λ same. other (ap (λ (k : ℕ). suc k) same))
