-- Chunks that go into a tip.
use Rattle.rt_buffer.proofs.Prelude.{◌≡◌, ℕ, Bool, true, false, List, [], ◌∷◌, length, refl, sym, ap, ◌∙◌, slice_get, unwrap_or, if◌then◌else◌, Tip, is_within, Merging, merged_chunks, pieces}

-- the first one lies beyond the tip's reach
pub merged_stops : (t : Tip) (at : ℕ) (chunks : List (List ℕ)) (first : List ℕ) → first ≡ unwrap_or (slice_get chunks 0) [] → is_within t at (length first) ≡ false → (e : Merging) → e ≡ merged_chunks t at chunks → (e.tip ≡ t) × (e.left ≡ pieces at chunks)
merged_stops t at [] first is beyond e same = rw same (refl, refl)
merged_stops t at (c ∷ cs) first is beyond e same =
    let far : is_within t at (length c) ≡ false = ap (λ (xs : List ℕ). is_within t at (length xs)) (sym is) ∙ beyond in
    rw (same, far) (refl, refl)

-- what didn't go in changed nothing
pub stays : (went within : Bool) (new put old : Tip) → went ≡ within → went ≡ false → new ≡ (if within then put else old) → new ≡ old
stays went true new put old is beyond e = absurd (cc)
stays went false new put old is beyond e = e
