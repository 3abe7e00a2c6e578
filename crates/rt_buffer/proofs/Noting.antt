-- What is noted by one call after another.
use Rattle.rt_buffer.proofs.Prelude.{◌≡◌, ℕ, List, [], ◌++◌, Option, Some, None, Result, Ok, refl, sym, ap, ◌∙◌, subst, append_assoc, append-nil, Error, Noted, Adds, Notes, Done, ResizesAndSyncs}

pub adds_both : (old mid new : Option (List Noted)) (xs ys : List Noted) → Adds old xs mid → Adds mid ys new → Adds old (xs ++ ys) new
adds_both None mid new xs ys h k = tt
adds_both (Some zs) mid new xs ys h k =
    let there : new ≡ Some ((zs ++ xs) ++ ys) = subst (λ m. Adds m ys new) h k in
    there ∙ ap (λ ws. let o : Option (List Noted) = Some ws in o) (append_assoc zs xs ys)

pub adds_none : (old : Option (List Noted)) → Adds old [] old
adds_none None = tt
adds_none (Some xs) = ap (λ (ys : List Noted). let o : Option (List Noted) = Some ys in o) (sym (append-nil xs))

-- a sync behind a change of the length
pub synced_behind : {S B : Type 0} (resizes : S → B → ℕ → Result Unit Error → S → List Noted → Type 0) (syncs : S → B → Result Done Error → S → List Noted → Type 0)
    (blob : B) (len : ℕ) (old mid new : S) (first : Result Unit Error) (u : Unit) (r : Result Done Error) (before between behind : Option (List Noted))
    → first ≡ Ok u → Notes before (λ y. resizes old blob len first mid y) between → Notes between (λ z. syncs mid blob r new z) behind
    → Notes before (λ x. ResizesAndSyncs resizes syncs blob len old r new x) behind
synced_behind resizes syncs blob len old mid new first u r before between behind done a b =
    (a.0 ++ b.0, adds_both before between behind a.0 b.0 a.1 b.1, (Ok u, mid, a.0, rw done at a.2, (b.0, refl, b.2)))
