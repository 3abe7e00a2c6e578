use Rattle.rt_super.proofs.Prelude.{◌≡◌, ◌∷◌, ◌++◌, [], ◌∙◌, ◌<◌, ap, sym, ℕ, List, length, get_or, set, map-set_same, map-set, Vec, Global, lists_of}
use Rattle.rt_super.proofs.Shapes.{on_err}
use Rattle.rt_super.proofs.TokenLemmas.{list-at}
use Rattle.rt_super.proofs.tokens.list_number.Goals as goal

kept : (vs : List (Vec ℕ Global)) (p : ℕ) (x y : Vec ℕ Global) → x ≡ get_or vs p x → y.items ≡ x.items → lists_of (set vs p y) ≡ lists_of vs
kept vs p x y at same = map-set_same (λ (v : Vec ℕ Global). v.items) vs p y x (same ∙ ap (λ (v : Vec ℕ Global). v.items) at)

longer : (vs : List (Vec ℕ Global)) (p n : ℕ) (x y : Vec ℕ Global) → p < length vs → x ≡ get_or vs p x → y.items ≡ x.items ++ n ∷ [] → lists_of (set vs p y) ≡ set (lists_of vs) p (get_or (lists_of vs) p [] ++ n ∷ [])
longer vs p n x y known at more =
    map-set (λ (z : Vec ℕ Global). z.items) vs p y ∙ ap (λ l. set (lists_of vs) p l) (more ∙ ap (λ l. l ++ n ∷ []) (sym (list-at vs p x known at)))

pub returns-in_err-push-clause-refused : goal.returns-in_err-push-clause-refused
returns-in_err-push-clause-refused c = on_err _ (kept _ _ _ _ c.index_mut.ensures.value c.in_err-push.ensures.items)

pub returns-clause-listed : goal.returns-clause-listed
returns-clause-listed c = longer _ _ _ _ _ c.requires.known c.index_mut.ensures.value c.in_ok-push.ensures.items
