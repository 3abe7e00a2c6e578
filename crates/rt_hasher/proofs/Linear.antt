-- The register's steps are linear over exclusive or, and zeros below a number only take time.
use Rattle.std.proofs.Common.{◌≡◌, ◌<◌, ℕ, zero, suc, ◌+◌, ◌*◌, ◌/◌, ◌%◌, ◌^◌, List, [], ◌∷◌, ◌++◌, length, get_or, refl, sym, ap, ◌∙◌, arith, bit_xor}
use Rattle.std.proofs.Math.Nat.{zero-mul, suc-add, zero-add, add_comm}
use Rattle.std.proofs.lemmas.Nat.{xor_shr, xor_mod, xor_comm, shr_split, shr-shr}
use Rattle.std.specs.Int.{w32, w64, from_le_bytes}
use lib.Bits.{xor_assoc, xor_zero_l, xor_zero_r, xor_self, xor_shifted, shifted_half, shifted_even}
use Rattle.rt_hasher.specs.Crc32c.{polynomial, bit_step, bit_steps, byte_step, byte_steps}

xor_pairs : (a b c d : ℕ) → bit_xor (bit_xor a b) (bit_xor c d) ≡ bit_xor (bit_xor a c) (bit_xor b d)
xor_pairs a b c d =
    xor_assoc a b (bit_xor c d)
    ∙ ap (bit_xor a) (sym (xor_assoc b c d) ∙ ap (λ (z : ℕ). bit_xor z d) (xor_comm b c) ∙ xor_assoc c b d)
    ∙ sym (xor_assoc a c (bit_xor b d))

-- a product by a bit
xor-times : (u v p : ℕ) → u < 2 → v < 2 → bit_xor u v * p ≡ bit_xor (u * p) (v * p)
xor-times zero v p _ _ = rw (zero-mul p) (sym (xor_zero_l (v * p)))
xor-times (suc zero) zero p _ _ = rw (zero-mul p) (sym (xor_zero_r (1 * p)))
xor-times (suc zero) (suc zero) p _ _ = zero-mul p ∙ sym (xor_self (1 * p))
xor-times (suc zero) (suc (suc v)) p _ k = absurd (omega arith)
xor-times (suc (suc u)) v p h _ = absurd (omega arith)

pub bit_step-xor : (a b : ℕ) → bit_step (bit_xor a b) ≡ bit_xor (bit_step a) (bit_step b)
unfolding bit_step
bit_step-xor a b =
    let half : bit_xor a b / 2 ≡ bit_xor (a / 2) (b / 2) = xor_shr a b 1 in
    let low : bit_xor a b % 2 ≡ bit_xor (a % 2) (b % 2) = xor_mod a b 1 in
    let small : a % 2 < 2 = omega arith in
    let little : b % 2 < 2 = omega arith in
    let added : bit_xor a b % 2 * polynomial ≡ bit_xor (a % 2 * polynomial) (b % 2 * polynomial) =
    ap (λ (z : ℕ). z * polynomial) low ∙ xor-times (a % 2) (b % 2) polynomial small little in
    ap (λ (z : ℕ). bit_xor z (bit_xor a b % 2 * polynomial)) half
    ∙ ap (bit_xor (bit_xor (a / 2) (b / 2))) added
    ∙ xor_pairs (a / 2) (b / 2) (a % 2 * polynomial) (b % 2 * polynomial)

pub bit_steps-xor : (n a b : ℕ) → bit_steps n (bit_xor a b) ≡ bit_xor (bit_steps n a) (bit_steps n b)
unfolding bit_steps
bit_steps-xor zero a b = refl
bit_steps-xor (suc n) a b = ap (bit_steps n) (bit_step-xor a b) ∙ bit_steps-xor n (bit_step a) (bit_step b)

pub bit_steps-add : (m n a : ℕ) → bit_steps (m + n) a ≡ bit_steps n (bit_steps m a)
unfolding bit_steps
bit_steps-add zero n a = ap (λ (k : ℕ). bit_steps k a) (zero-add n)
bit_steps-add (suc m) n a = ap (λ (k : ℕ). bit_steps k a) (suc-add m n) ∙ bit_steps-add m n (bit_step a)

bit_step-even : (a k : ℕ) → bit_step (a * 2 ^ suc k) ≡ a * 2 ^ k
unfolding bit_step
bit_step-even a k =
    let none : a * 2 ^ suc k % 2 * polynomial ≡ 0 = ap (λ (z : ℕ). z * polynomial) (shifted_even a k) ∙ zero-mul polynomial in
    ap (bit_xor (a * 2 ^ suc k / 2)) none ∙ xor_zero_r (a * 2 ^ suc k / 2) ∙ shifted_half a k

pub bit_steps-even : (n a : ℕ) → bit_steps n (a * 2 ^ n) ≡ a
unfolding bit_steps
bit_steps-even zero a = omega arith
bit_steps-even (suc n) a = ap (bit_steps n) (bit_step-even a n) ∙ bit_steps-even n a

-- a number is its low byte and the rest
split : (x : ℕ) → x ≡ bit_xor (x / 256 * 256) (x % 256)
split x =
    let low : x % 256 < 2 ^ 8 = omega arith in
    sym (shr_split x 8) ∙ sym (xor_shifted (x / 256) 8 (x % 256) low)

-- the low byte is looked up by itself, and the rest takes a byte's time less
pub bit_steps-low : (n x : ℕ) → bit_steps (8 + n) x ≡ bit_xor (bit_steps (8 + n) (x % 256)) (bit_steps n (x / 256))
bit_steps-low n x =
    let rest : bit_steps (8 + n) (x / 256 * 256) ≡ bit_steps n (x / 256) =
    bit_steps-add 8 n (x / 256 * 256) ∙ ap (bit_steps n) (bit_steps-even 8 (x / 256)) in
    ap (bit_steps (8 + n)) (split x)
    ∙ bit_steps-xor (8 + n) (x / 256 * 256) (x % 256)
    ∙ ap (λ (z : ℕ). bit_xor z (bit_steps (8 + n) (x % 256))) rest
    ∙ xor_comm (bit_steps n (x / 256)) (bit_steps (8 + n) (x % 256))

-- bytes as a number, the first byte lowest
abbrev number_of : List ℕ → ℕ
number_of [] = 0
number_of (b ∷ bs) = bit_xor b (number_of bs * 256)

-- the order of steps and bytes is free: all bytes at once, and then all steps
byte_steps-number : (r : ℕ) (bs : List ℕ) → byte_steps r bs ≡ bit_steps (8 * length bs) (bit_xor r (number_of bs))
unfolding bit_steps
byte_steps-number r [] = sym (xor_zero_r r)
byte_steps-number r (b ∷ bs) =
    let n : ℕ = number_of bs in
    let late : n ≡ bit_steps 8 (n * 256) = sym (bit_steps-even 8 n) in
    let joined : bit_xor (bit_steps 8 (bit_xor r b)) n ≡ bit_steps 8 (bit_xor r (bit_xor b (n * 256))) =
    ap (bit_xor (bit_steps 8 (bit_xor r b))) late
    ∙ sym (bit_steps-xor 8 (bit_xor r b) (n * 256))
    ∙ ap (bit_steps 8) (xor_assoc r b (n * 256)) in
    let count : 8 + 8 * length bs ≡ 8 * length (b ∷ bs) = omega arith in
    byte_steps-number (bit_steps 8 (bit_xor r b)) bs
    ∙ ap (bit_steps (8 * length bs)) joined
    ∙ sym (bit_steps-add 8 (8 * length bs) (bit_xor r (bit_xor b (n * 256))))
    ∙ ap (λ (k : ℕ). bit_steps k (bit_xor r (bit_xor b (n * 256)))) count

pub byte_steps-append : (r : ℕ) (xs ys : List ℕ) → byte_steps r (xs ++ ys) ≡ byte_steps (byte_steps r xs) ys
byte_steps-append r [] ys = refl
byte_steps-append r (x ∷ xs) ys = byte_steps-append (byte_step r x) xs ys

-- a further byte of a number, and what is left of it
bit_steps-next : (n x k : ℕ) → bit_steps (8 + n) (x / 2 ^ k) ≡ bit_xor (bit_steps (8 + n) (x / 2 ^ k % 256)) (bit_steps n (x / 2 ^ (k + 8)))
bit_steps-next n x k = bit_steps-low n (x / 2 ^ k) ∙ ap (λ (z : ℕ). bit_xor (bit_steps (8 + n) (x / 2 ^ k % 256)) (bit_steps n z)) (shr-shr x k 8)

joins : (a b c d : ℕ) → b ≡ bit_xor c d → bit_xor a b ≡ bit_xor (bit_xor a c) d
joins a b c d e = ap (bit_xor a) e ∙ sym (xor_assoc a c d)

-- eight bytes of a number, each looked up by itself
pub bit_steps-word : (x : ℕ) → x < 2 ^ 64 → bit_steps 64 x ≡
    bit_xor (bit_xor (bit_xor (bit_xor (bit_xor (bit_xor (bit_xor (bit_steps 64 (x % 256)) (bit_steps 56 (x / 256 % 256)))
    (bit_steps 48 (x / 65536 % 256))) (bit_steps 40 (x / 16777216 % 256))) (bit_steps 32 (x / 4294967296 % 256)))
    (bit_steps 24 (x / 1099511627776 % 256))) (bit_steps 16 (x / 281474976710656 % 256))) (bit_steps 8 (x / 72057594037927936 % 256))
bit_steps-word x small =
    let top : x / 72057594037927936 % 256 ≡ x / 72057594037927936 = omega arith in
    bit_steps-low 56 x
    ∙ joins _ _ _ _ (bit_steps-next 48 x 8)
    ∙ joins _ _ _ _ (bit_steps-next 40 x 16)
    ∙ joins _ _ _ _ (bit_steps-next 32 x 24)
    ∙ joins _ _ _ _ (bit_steps-next 24 x 32)
    ∙ joins _ _ _ _ (bit_steps-next 16 x 40)
    ∙ joins _ _ _ _ (bit_steps-next 8 x 48)
    ∙ ap (λ (z : ℕ). bit_xor (bit_xor (bit_xor (bit_xor (bit_xor (bit_xor (bit_xor (bit_steps 64 (x % 256)) (bit_steps 56 (x / 256 % 256)))
    (bit_steps 48 (x / 65536 % 256))) (bit_steps 40 (x / 16777216 % 256))) (bit_steps 32 (x / 4294967296 % 256)))
    (bit_steps 24 (x / 1099511627776 % 256))) (bit_steps 16 (x / 281474976710656 % 256))) (bit_steps 8 z)) (sym top)

-- four bytes of a number
pub bit_steps-half : (x : ℕ) → x < 2 ^ 32 → bit_steps 32 x ≡
    bit_xor (bit_xor (bit_xor (bit_steps 32 (x % 256)) (bit_steps 24 (x / 256 % 256))) (bit_steps 16 (x / 65536 % 256))) (bit_steps 8 (x / 16777216 % 256))
bit_steps-half x small =
    let top : x / 16777216 % 256 ≡ x / 16777216 = omega arith in
    bit_steps-low 24 x
    ∙ joins _ _ _ _ (bit_steps-next 16 x 8)
    ∙ joins _ _ _ _ (bit_steps-next 8 x 16)
    ∙ ap (λ (z : ℕ). bit_xor (bit_xor (bit_xor (bit_steps 32 (x % 256)) (bit_steps 24 (x / 256 % 256))) (bit_steps 16 (x / 65536 % 256))) (bit_steps 8 z)) (sym top)

low_first : (a v w : ℕ) → a < 256 → v ≡ w → bit_xor a (v * 256) ≡ a + w * 256
low_first a v w small e =
    ap (λ (z : ℕ). bit_xor a (z * 256)) e
    ∙ xor_comm a (w * 256)
    ∙ xor_shifted w 8 a small
    ∙ add_comm (w * 256) a

-- the number that eight bytes are read as
number_of_eight : (bs : List ℕ) → length bs ≡ 8 → ((i : ℕ) → get_or bs i 0 < 256) → number_of bs ≡ from_le_bytes w64 bs
number_of_eight (a ∷ b ∷ c ∷ d ∷ e ∷ f ∷ g ∷ h ∷ []) len small =
    let nested : number_of (a ∷ b ∷ c ∷ d ∷ e ∷ f ∷ g ∷ h ∷ []) ≡ a + (b + (c + (d + (e + (f + (g + h * 256) * 256) * 256) * 256) * 256) * 256) * 256 =
    low_first a _ _ (small 0) (low_first b _ _ (small 1) (low_first c _ _ (small 2) (low_first d _ _ (small 3) (low_first e _ _ (small 4)
    (low_first f _ _ (small 5) (low_first g _ _ (small 6) (xor_zero_r h))))))) in
    nested ∙ omega arith
number_of_eight bs len small = absurd (omega arith)

-- the number that four bytes are read as
number_of_four : (bs : List ℕ) → length bs ≡ 4 → ((i : ℕ) → get_or bs i 0 < 256) → number_of bs ≡ from_le_bytes w32 bs
number_of_four (a ∷ b ∷ c ∷ d ∷ []) len small =
    let nested : number_of (a ∷ b ∷ c ∷ d ∷ []) ≡ a + (b + (c + d * 256) * 256) * 256 =
    low_first a _ _ (small 0) (low_first b _ _ (small 1) (low_first c _ _ (small 2) (xor_zero_r d))) in
    nested ∙ omega arith
number_of_four bs len small = absurd (omega arith)

-- eight bytes or four, added to the register all at once
pub sum-word : (r x : ℕ) (word : List ℕ) → length word ≡ 8 → ((i : ℕ) → get_or word i 0 < 256) → x ≡ from_le_bytes w64 word
    → bit_steps 64 (bit_xor x r) ≡ byte_steps r word
sum-word r x word eight small is =
    ap (bit_steps 64) (xor_comm x r ∙ ap (bit_xor r) (is ∙ sym (number_of_eight word eight small)))
    ∙ ap (λ (n : ℕ). bit_steps (8 * n) (bit_xor r (number_of word))) (sym eight)
    ∙ sym (byte_steps-number r word)

pub sum-half : (r x : ℕ) (half : List ℕ) → length half ≡ 4 → ((i : ℕ) → get_or half i 0 < 256) → x ≡ from_le_bytes w32 half
    → bit_steps 32 (bit_xor x r) ≡ byte_steps r half
sum-half r x half four small is =
    ap (bit_steps 32) (xor_comm x r ∙ ap (bit_xor r) (is ∙ sym (number_of_four half four small)))
    ∙ ap (λ (n : ℕ). bit_steps (8 * n) (bit_xor r (number_of half))) (sym four)
    ∙ sym (byte_steps-number r half)
