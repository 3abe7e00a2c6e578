-- One more step of a walk through a list: whether any passes a test, and what holds of each.
use Rattle.rt_net.proofs.Prelude.{◌≡◌, ℕ, ◌+◌, ◌<◌, Bool, ◌||◌, List, length, take, refl, sym, ap, ◌∙◌, subst, list_any, AllWithin, AllWithin-more, list_any_more, slice_get_read, get_or_from_slice_get}
use Rattle.std.proofs.Common.{slice_index_or}

-- what was read at a place stands there, whatever else would
read-at : {X : Type 0} (xs : List X) (i : ℕ) (x d : X) → i < length xs → x ≡ slice_index_or xs i x → slice_index_or xs i d ≡ x
read-at xs i x d within read = get_or_from_slice_get xs i x d (slice_get_read xs (length xs) i x refl within read)

pub any-more : {X : Type 0} (p : X → Bool) (xs : List X) (i : ℕ) (x : X) (found : Bool) → i < length xs → x ≡ slice_index_or xs i x → found ≡ list_any p (take i xs) → found || p x ≡ list_any p (take (i + 1) xs)
any-more p xs i x found within read old =
    ap (λ b. b || p x) old
    ∙ ap (λ y. list_any p (take i xs) || p y) (sym (read-at xs i x x within read))
    ∙ sym (list_any_more p xs i x within)

pub all-more : {X : Type 0} (P : X → Type 0) (xs : List X) (i : ℕ) (x : X) → i < length xs → x ≡ slice_index_or xs i x → P x → AllWithin P xs 0 i → AllWithin P xs 0 (i + 1)
all-more P xs i x within read here old = AllWithin-more P xs 0 i old (λ d. subst P (sym (read-at xs i x d within read)) here)
