-- The digits of numbers that have few.
use Rattle.std.proofs.Common.{◌≡◌, ◌∷◌, [], ◌++◌, ◌+◌, ◌≤◌, ◌<◌, ◌/◌, ◌%◌, ℕ, refl, arith}
use Rattle.std.specs.Fmt.{decimal}
use Rattle.std.proofs.lemmas.Fmt.{decimal_digit}
use Rattle.itoa.proofs.Decimal.{decimal_two, decimal_pair}

pub one_digit : (n : ℕ) → n < 10 → decimal n ≡ (48 + n) ∷ []
one_digit n below = decimal_digit n below

pub two_digits : (n : ℕ) → 10 ≤ n → n < 100 → decimal n ≡ (48 + n % 100 / 10) ∷ (48 + n % 100 % 10) ∷ []
two_digits n above below =
    let same : n % 100 ≡ n = omega arith in
    rw (same, decimal_two n above below) refl

pub three_digits : (n : ℕ) → 100 ≤ n → n < 1000 → decimal n ≡ (48 + n / 100) ∷ (48 + n % 100 / 10) ∷ (48 + n % 100 % 10) ∷ []
three_digits n above below = rw (decimal_pair n above (omega arith), decimal_digit (n / 100) (omega arith)) refl

pub four_digits : (n : ℕ) → 1000 ≤ n → n < 10000 → decimal n ≡ (48 + n / 100 / 10) ∷ (48 + n / 100 % 10) ∷ (48 + n % 100 / 10) ∷ (48 + n % 100 % 10) ∷ []
four_digits n above below = rw (decimal_pair n (omega arith) (omega arith), decimal_two (n / 100) (omega arith) (omega arith)) refl

pub five_digits : (n : ℕ) → 10000 ≤ n → n < 100000 → decimal n ≡ (48 + n / 100 / 100) ∷ (48 + n / 100 % 100 / 10) ∷ (48 + n / 100 % 100 % 10) ∷ (48 + n % 100 / 10) ∷ (48 + n % 100 % 10) ∷ []
five_digits n above below = rw (decimal_pair n (omega arith) (omega arith), decimal_pair (n / 100) (omega arith) (omega arith), decimal_digit (n / 100 / 100) (omega arith)) refl
