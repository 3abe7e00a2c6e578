-- Two numbers are drawn, one after the other.
use Rattle.rt_store.proofs.Prelude.{◌≡◌, ◌≤◌, ◌+◌, ◌%◌, ℕ, List, [], ◌∷◌, ◌++◌, refl, ap, subst, inr, ◌∙◌, append_assoc, Option, Notes, Prefix, Noted, Drawn, Adds, WriteChosen, IsCut}
use Rattle.std.specs.Prelude.{None, Some}
use Rattle.rt_store.specs.declared.faults.PartialWriteMode.TheVariants as partial

adds-both : (old mid new : Option (List Noted)) (x y : List Noted) → Adds old x mid → Adds mid y new → Adds old (x ++ y) new
adds-both None mid new x y a b = tt
adds-both (Some zs) mid new x y a b =
    let P : Option (List Noted) → Type 0 = λ m. Adds m y new in
    let there : new ≡ Some ((zs ++ x) ++ y) = subst P a b in
    there ∙ ap (λ ws. let o : Option (List Noted) = Some ws in o) (append_assoc zs x y)

-- a write that isn't kept is cut
pub cuts : (old mid new : Option (List Noted)) (keep len d e : ℕ) → Adds old (Drawn d ∷ []) mid → Adds mid (Drawn e ∷ []) new → keep ≤ d % 1000000 → Notes old (WriteChosen keep partial.Prefix len (Prefix (e % (len + 1)))) new
cuts old mid new keep len d e a b h =
    let cut : IsCut keep len (Prefix (e % (len + 1))) (Drawn d ∷ Drawn e ∷ []) = (d, e, refl, refl, h) in
    (Drawn d ∷ Drawn e ∷ [], adds-both old mid new (Drawn d ∷ []) (Drawn e ∷ []) a b, inr cut)
