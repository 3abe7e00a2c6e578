-- Fields in a row, each with its length before it, so that they don't run together.
use Rattle.std.specs.Prelude.{◌≡◌, ℕ, ◌<◌, ◌^◌, List, ◌++◌, length}
use Rattle.std.specs.Int.{w64, to_be_bytes}
use Rattle.std.specs.List.{All, flat_map}

-- a field: its length as eight bytes, the highest first, and then its bytes
unfoldable pub framed_field : List ℕ → List ℕ
framed_field field = to_be_bytes w64 (length field) ++ field

-- fields in order
abbrev pub framed : List (List ℕ) → List ℕ
framed fields = flat_map framed_field fields

-- eight bytes have room for each length
abbrev pub AllShort : List (List ℕ) → Type 0
AllShort fields = All (λ f. length f < 2 ^ 64) fields

-- equal framed bytes are those of equal lists of fields
abbrev pub IsFramedOneWay : Type 0
IsFramedOneWay = (fields others : List (List ℕ)) → AllShort fields → AllShort others → framed fields ≡ framed others → fields ≡ others
