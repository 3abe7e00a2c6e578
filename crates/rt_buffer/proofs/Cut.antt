-- Bytes that are cut where their chunks end.
use Rattle.rt_buffer.proofs.Prelude.{◌≡◌, ◌+◌, ℕ, zero, suc, List, [], ◌∷◌, ◌++◌, Some, length, take, refl, ap, slice_get, arith, take_at, drop_at, concat, cut}
use Rattle.std.specs.Prelude.{map}

-- so the chunks come back
pub cut_joined : (chunks : List (List ℕ)) → cut (map length chunks) (concat chunks) ≡ chunks
cut_joined [] = refl
cut_joined (c ∷ cs) = rw (take_at c (concat cs) (length c) refl, drop_at c (concat cs) (length c) refl, cut_joined cs) refl

-- the lengths of one chunk more
pub one_length : (chunks : List (List ℕ)) (i : ℕ) (c : List ℕ) → slice_get chunks i ≡ Some c → map length (take (i + 1) chunks) ≡ map length (take i chunks) ++ length c ∷ []
one_length [] i c there = absurd (cc)
one_length (d ∷ ds) zero c there = let same : d ≡ c = cc in
    rw same refl
one_length (d ∷ ds) (suc i) c there =
    let e : suc i + 1 ≡ suc (i + 1) = omega arith in
    rw e (ap (λ (ns : List ℕ). length d ∷ ns) (one_length ds i c there))
