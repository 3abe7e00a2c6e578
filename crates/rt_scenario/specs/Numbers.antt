-- Numbers: decimal, without sign or leading zero, below 2^128, or 2^64 where that is said; and values: an i64, or an i32
-- for a shutdown, where a minus sign may be before a number other than 0.
use Rattle.std.specs.Prelude.{ℕ, ◌^◌, ◌==◌, ◌&&◌, ◌||◌, not, nat_lt, nat_le, Bool, false, if◌then◌else◌, List, [], ◌∷◌, length, Option, Some, None, ℤ, pos, neg_ℤ, int_lt}
use Rattle.std.specs.List.{list_all}
use Rattle.std.specs.Option.{option_and_then}
use Rattle.std.specs.Char.{is_ascii_digit}
use Rattle.std.specs.Str.Parse.{digits_value}

abbrev pub is_decimal : List ℕ → Bool
is_decimal [] = false
is_decimal (d ∷ ds) = list_all is_ascii_digit (d ∷ ds) && (not (d == 48) || (length ds == 0))

abbrev pub below : ℕ → ℕ → Option ℕ
below limit n = if nat_lt n limit then Some n else None

abbrev pub number_of : List ℕ → Option ℕ
number_of text = if is_decimal text then below (2 ^ 128) (digits_value 10 text) else None

-- a number below 2^64
abbrev pub small_number_of : List ℕ → Option ℕ
small_number_of text = option_and_then (below (2 ^ 64)) (number_of text)

-- minus a number other than 0
abbrev pub minus : Option ℕ → Option ℤ
minus None = None
minus (Some n) = if nat_lt 0 n && nat_le n (2 ^ 63) then Some (neg_ℤ (pos n)) else None

abbrev pub plus : Option ℕ → Option ℤ
plus None = None
plus (Some n) = if nat_lt n (2 ^ 63) then Some (pos n) else None

abbrev pub value_of : List ℕ → Option ℤ
value_of [] = None
value_of (b ∷ bs) = if b == 45 then minus (number_of bs) else plus (number_of (b ∷ bs))

-- the value, where it is from -2^31 on and below 2^31
abbrev pub narrow : Option ℤ → Option ℤ
narrow None = None
narrow (Some v) = if not (int_lt v (neg_ℤ (pos (2 ^ 31)))) && int_lt v (pos (2 ^ 31)) then Some v else None

-- a value within an i32
abbrev pub small_value_of : List ℕ → Option ℤ
small_value_of text = narrow (value_of text)
