-- Fields that a checksum takes in, one list after the other.
use Rattle.rt_store.proofs.Prelude.{◌≡◌, ℕ, List, [], ◌∷◌, ◌++◌, ap, sym, subst, ◌∙◌, append-nil, Vec, Global, flat_map, register_of, framed, TakesFields}
use Rattle.std.proofs.Common.{append_assoc}
use Rattle.rt_store.proofs.Named.{Owned, shown}

takes_both : (a b : List (List ℕ)) (old mid new : ℕ) → TakesFields a old mid → TakesFields b mid new → TakesFields (a ++ b) old new
takes_both a b old mid new first second before h =
    second (before ++ a) (first before h) ∙ ap (λ (fields : List (List ℕ)). register_of (framed fields)) (append_assoc before a b)

pub takes_none : (register : ℕ) → TakesFields [] register register
takes_none register before h = h ∙ ap (λ (fields : List (List ℕ)). register_of (framed fields)) (sym (append-nil before))

-- those of the first name, and then those of the others
pub takes_more : (fields : List ℕ × ℕ → List (List ℕ)) (es : Owned) (e : Vec ℕ Global × ℕ) (rest : Owned) (old mid new : ℕ) → es ≡ e ∷ rest
    → TakesFields (fields (e.0.items, e.1)) old mid → TakesFields (flat_map fields (shown rest)) mid new → TakesFields (flat_map fields (shown es)) old new
takes_more fields es e rest old mid new all first behind =
    let both : TakesFields (flat_map fields (shown (e ∷ rest))) old new = takes_both (fields (e.0.items, e.1)) (flat_map fields (shown rest)) old mid new first behind in
    subst (λ (z : Owned). TakesFields (flat_map fields (shown z)) old new) (sym all) both

pub takes_all : (fields : List ℕ × ℕ → List (List ℕ)) (es : Owned) (register : ℕ) → es ≡ [] → TakesFields (flat_map fields (shown es)) register register
takes_all fields es register all = subst (λ (z : Owned). TakesFields (flat_map fields (shown z)) register register) (sym all) (takes_none register)
