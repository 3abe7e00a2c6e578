use Rattle.std.proofs.Common.{◌≡◌, ◌≢◌, ℕ, true, not, nat_eq, List, [], ◌∷◌, ◌++◌, refl, append_assoc, ap, ◌∙◌, codes}
use Rattle.std.specs.List.{list_all, starts_with}
use Rattle.std.proofs.lemmas.Grind.{common_steps}
use Rattle.std.proofs.Common.{arith}
use Rattle.rt_base.specs.Label.{is_reserved, prefixed}

-- a word without underscores begins a text with an underscore only before it
pub before_underscore : (w p rest : List ℕ) → list_all (λ b. not (nat_eq b 95)) w ≡ true → starts_with nat_eq (p ++ 95 ∷ rest) w ≡ starts_with nat_eq p w
before_underscore [] p rest h = grind (arith, common_steps)
before_underscore (x ∷ xs) [] rest h = grind (arith, common_steps)
before_underscore (x ∷ xs) (y ∷ ys) rest h = let i = before_underscore xs ys rest in grind (arith, common_steps)

pub reserved_by_prefix : (p name : List ℕ) → p ≢ [] → is_reserved (prefixed p name) ≡ is_reserved p
reserved_by_prefix [] name h = absurd (h refl)
reserved_by_prefix (b ∷ bs) name h =
    let e : prefixed (b ∷ bs) name ≡ (b ∷ bs) ++ 95 ∷ name = append_assoc (b ∷ bs) (95 ∷ []) name in
    ap is_reserved e ∙ before_underscore (codes "runtime") (b ∷ bs) name refl
