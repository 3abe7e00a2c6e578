use Rattle.std.proofs.Common.{◌≡◌, ◌<◌, ℕ, true, List, [], ◌∷◌, refl, arith}
use Rattle.std.proofs.lemmas.Bool.{and_parts}
use Rattle.std.proofs.lemmas.Bool.Decides.{nat_tests}
use Rattle.std.proofs.lemmas.Str.{IsUtf8-from_ascii}
use Rattle.std.proofs.lemmas.Str.Ascii.{IsAscii-nil, IsAscii-cons}
use Rattle.std.specs.Char.{is_ascii}
use Rattle.std.specs.List.{list_all}
use Rattle.std.specs.Str.{IsAscii}
use Rattle.hex.specs.Hex.{lower_digits}
use Rattle.hex.proofs.HexLemmas.{IsAscii-encode_with}
use Rattle.rt_audit.proofs.line.add_short_hex.Goals as goal

is_small : (b : ℕ) → is_ascii b ≡ true → b < 128
is_small b h = grind (arith, nat_tests)

ascii_by_test : (bs : List ℕ) → list_all is_ascii bs ≡ true → IsAscii bs
ascii_by_test [] h = IsAscii-nil
ascii_by_test (b ∷ bs) h =
    let parts = and_parts (is_ascii b) (list_all is_ascii bs) h in
    IsAscii-cons b bs (is_small b parts.0) (ascii_by_test bs parts.1)

pub from_utf8_unchecked-word-requires : goal.from_utf8_unchecked-word-requires
from_utf8_unchecked-word-requires c =
    let digits = ascii_by_test lower_digits refl in
    IsUtf8-from_ascii _ (rw c.in-Ok.ensures.written (IsAscii-encode_with lower_digits c.args.bytes.now digits))
