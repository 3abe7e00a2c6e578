-- Zeros in hex.
use Rattle.std.proofs.lemmas.List.{take-append-drop}
use Rattle.std.proofs.Common.{◌≡◌, ℕ, List, [], ◌∷◌, ◌++◌, take, drop, refl, sym, ap, ◌∙◌, append_assoc, codes}
use Rattle.hex.specs.Hex.{encode_lower, encode_with}
use Rattle.rt_audit.specs.Lines.{hex_text}
use Rattle.rt_hasher.specs.TaskEvent.{small_number}

-- eight bytes of zeros are sixteen digits of zeros
zeros_first : (low : List ℕ) → encode_lower (small_number low) ≡ codes "0000000000000000" ++ encode_lower low
unfolding encode_with
zeros_first low = refl

-- the digits of zeros were added, and then the others
pub zeros_then : (old mid new low : List ℕ) → mid ≡ old ++ codes "0000000000000000" → new ≡ mid ++ encode_lower low → new ≡ old ++ encode_lower (small_number low)
zeros_then old mid new low one two =
    two
    ∙ ap (λ l. l ++ encode_lower low) one
    ∙ append_assoc old (codes "0000000000000000") (encode_lower low)
    ∙ ap (λ l. old ++ l) (sym (zeros_first low))

-- a space was added, and then a field that is such a number
pub number_then : (old mid new bytes low : List ℕ) → mid ≡ old ++ codes " " → bytes ≡ small_number low → new ≡ mid ++ encode_lower (small_number low) → new ≡ old ++ (codes " " ++ hex_text bytes)
number_then old mid new bytes low one is two =
    two
    ∙ ap (λ l. l ++ encode_lower (small_number low)) one
    ∙ append_assoc old (codes " ") (encode_lower (small_number low))
    ∙ ap (λ l. old ++ (codes " " ++ hex_text l)) (sym is)

-- the same of a number whose first six bytes are zeros
more_zeros_first : (rest : List ℕ) → encode_lower (small_number (0 ∷ 0 ∷ 0 ∷ 0 ∷ 0 ∷ 0 ∷ rest)) ≡ codes "0000000000000000000000000000" ++ encode_lower rest
unfolding encode_with
more_zeros_first rest = refl

pub more_zeros_then : (old mid new low high rest : List ℕ) → high ≡ take 6 low → rest ≡ drop 6 low → high ≡ 0 ∷ 0 ∷ 0 ∷ 0 ∷ 0 ∷ 0 ∷ [] → mid ≡ old ++ codes "0000000000000000000000000000" → new ≡ mid ++ encode_lower rest → new ≡ old ++ encode_lower (small_number low)
more_zeros_then old mid new low high rest first second zeros one two =
    let whole : low ≡ 0 ∷ 0 ∷ 0 ∷ 0 ∷ 0 ∷ 0 ∷ rest =
    sym (take-append-drop 6 low) ∙ ap (λ l. l ++ drop 6 low) (sym first ∙ zeros) ∙ ap (λ l. 0 ∷ 0 ∷ 0 ∷ 0 ∷ 0 ∷ 0 ∷ l) (sym second) in
    two
    ∙ ap (λ l. l ++ encode_lower rest) one
    ∙ append_assoc old (codes "0000000000000000000000000000") (encode_lower rest)
    ∙ ap (λ l. old ++ l) (sym (more_zeros_first rest))
    ∙ ap (λ l. old ++ encode_lower (small_number l)) (sym whole)
