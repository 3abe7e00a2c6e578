-- Characters that are written as they are.
use Rattle.rt_metrics.proofs.Prelude.{◌≡◌, ◌≢◌, ℕ, ◌≤◌, List, [], ◌∷◌, arith, refl, ◌+◌, ◌/◌, ◌%◌, Bool, true, false, cond, encode, nat_tests, escape, escaped}

escape_plain : (b : ℕ) → b ≢ 92 → b ≢ 34 → b ≢ 10 → escape b ≡ b ∷ []
escape_plain b p q r = grind (arith, nat_tests, p, q, r)

escape_high : (b : ℕ) → 128 ≤ b → escape b ≡ b ∷ []
escape_high b h = grind (arith, nat_tests, h)

either : (b : Bool) (xs ys : List ℕ) → escaped xs ≡ xs → escaped ys ≡ ys → escaped (cond b xs ys) ≡ cond b xs ys
either true xs ys p q = p
either false xs ys p q = q

two_high : (a b : ℕ) → 128 ≤ a → 128 ≤ b → escaped (a ∷ b ∷ []) ≡ a ∷ b ∷ []
two_high a b p q = rw (escape_high a p, escape_high b q) refl

three_high : (a b c : ℕ) → 128 ≤ a → 128 ≤ b → 128 ≤ c → escaped (a ∷ b ∷ c ∷ []) ≡ a ∷ b ∷ c ∷ []
three_high a b c p q r = rw (escape_high a p, escape_high b q, escape_high c r) refl

four_high : (a b c d : ℕ) → 128 ≤ a → 128 ≤ b → 128 ≤ c → 128 ≤ d → escaped (a ∷ b ∷ c ∷ d ∷ []) ≡ a ∷ b ∷ c ∷ d ∷ []
four_high a b c d p q r s = rw (escape_high a p, escape_high b q, escape_high c r, escape_high d s) refl

high : (n k : ℕ) → 128 ≤ n → 128 ≤ n + k
high n k h = omega arith

-- the bytes of any other character are written as they are
pub escaped_char : (c : ℕ) → c ≢ 92 → c ≢ 34 → c ≢ 10 → escaped (encode c) ≡ encode c
unfolding encode
escaped_char c p q r =
    let own : escaped (c ∷ []) ≡ c ∷ [] = rw (escape_plain c p q r) refl in
    let next_high : (n : ℕ) → 128 ≤ 128 + n % 64 = λ n. high 128 (n % 64) (omega arith) in
    let two = two_high (192 + c / 64) (128 + c % 64) (high 192 (c / 64) (omega arith)) (next_high c) in
    let three = three_high (224 + c / 4096) (128 + c / 64 % 64) (128 + c % 64) (high 224 (c / 4096) (omega arith)) (next_high (c / 64)) (next_high c) in
    let four = four_high (240 + c / 262144) (128 + c / 4096 % 64) (128 + c / 64 % 64) (128 + c % 64) (high 240 (c / 262144) (omega arith)) (next_high (c / 4096)) (next_high (c / 64)) (next_high c) in
    either _ (c ∷ []) _ own (either _ _ _ two (either _ _ _ three four))
