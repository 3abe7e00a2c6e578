-- Lists of the fields of an event.
use Rattle.rt_walk.proofs.Prelude.{◌≡◌, ◌≤◌, ◌<◌, ◌+◌, ◌∙◌, ap, sym, arith, length, List, ℕ, [], ◌∷◌, ◌++◌, take, Some, get_or, slice_get, take_more, get_or_from_slice_get, slice_get_within}

pub one-item : {A : Type 0} → (xs : List A) (x : A) → 1 ≤ length xs → length xs < 2 → x ≡ get_or xs 0 x → xs ≡ x ∷ []
one-item [] x l b e = absurd (omega (arith, l))
one-item (y ∷ []) x l b e = ap (λ v. v ∷ []) (sym e)
one-item (y ∷ z ∷ zs) x l b e = absurd (omega (arith, b))

pub take-further : {A : Type 0} → (xs : List A) (i : ℕ) (x : A) → slice_get xs i ≡ Some x → take (i + 1) xs ≡ take i xs ++ x ∷ []
take-further xs i x there = take_more xs i x (slice_get_within xs i x there) ∙ ap (λ y. take i xs ++ y ∷ []) (get_or_from_slice_get xs i x x there)
