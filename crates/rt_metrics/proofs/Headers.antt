-- A header without a line under it.
use Rattle.rt_metrics.proofs.Prelude.{◌≡◌, ℕ, suc, ◌+◌, List, [], ◌∷◌, ◌++◌, length, take, refl, ap, ◌∙◌, arith, take-append_seam, length-append, append-nil, headed}

-- a text that is no longer than with its header alone has no line after it, and is cut to what was before
pub taken_back : (old head lines now : List ℕ) → now ≡ (old ++ head) ++ lines → length now ≡ length (old ++ head) → take (length old) now ≡ old ++ headed head lines
taken_back old head [] now e l = rw (e, append-nil (old ++ head), take-append_seam old head, append-nil old) refl
taken_back old head (b ∷ bs) now e l =
    let longer : length now ≡ length (old ++ head) + suc (length bs) = ap length e ∙ length-append (old ++ head) (b ∷ bs) in
    let impossible : ⊥ = omega arith in
    absurd impossible
