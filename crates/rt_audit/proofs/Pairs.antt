-- Each entry of the table of pairs, computed.
use Rattle.std.proofs.Common.{◌≡◌, ◌<◌, ℕ, ◌+◌, ◌/◌, ◌%◌, List, [], ◌∷◌, map, refl, get_or, ◌∙◌, ap, arith}
use Rattle.std.specs.List.{range_with_len}
use Rattle.std.proofs.lemmas.List.FromFn.{get_or-map-range_with_len}
use Rattle.rt_audit.specs.declared.digit_pairs.TheConstants.{PAIRS}

abbrev digits : ℕ → List ℕ
digits n = (48 + n / 10) ∷ (48 + n % 10) ∷ []

table_is : PAIRS ≡ map digits (range_with_len 0 100)
table_is = refl

pub pair_is : (n : ℕ) → n < 100 → get_or PAIRS n [] ≡ digits n
pair_is n below =
    ap (λ (t : List (List ℕ)). get_or t n []) table_is
    ∙ get_or-map-range_with_len digits 0 100 n n [] below (omega arith)
