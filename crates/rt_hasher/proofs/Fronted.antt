-- What stands before a task's number in the event of its visit: the digest's four bytes are looked up, each by itself.
use Rattle.std.proofs.Common.{◌≡◌, ℕ, ◌+◌, ◌*◌, List, [], ◌∷◌, ◌++◌, length, get_or, take, drop, refl, sym, ap, ◌∙◌, arith, bit_xor}
use Rattle.std.proofs.lemmas.Nat.{xor_comm}
use Rattle.std.specs.Int.{w64, to_be_bytes, from_le_bytes}
use lib.Bits.{xor_assoc, xor_zero_r}
use Rattle.rt_hasher.specs.Crc32c.{all_ones, bit_step, bit_steps, byte_step, byte_steps, register_of}
use Rattle.rt_hasher.specs.Framing.{framed_field, framed}
use Rattle.rt_hasher.specs.TaskEvent.{task_event, small_number, task_front}
use Rattle.rt_hasher.proofs.Linear.{bit_steps-xor, bit_steps-add, byte_steps-append}

-- what is added to a register goes on by itself
byte_steps-xor : (x y : ℕ) (bs : List ℕ) → byte_steps (bit_xor x y) bs ≡ bit_xor (byte_steps x bs) (bit_steps (8 * length bs) y)
unfolding bit_steps
byte_steps-xor x y [] = refl
byte_steps-xor x y (b ∷ bs) =
    let last : bit_xor (bit_xor x y) b ≡ bit_xor (bit_xor x b) y =
    xor_assoc x y b ∙ ap (bit_xor x) (xor_comm y b) ∙ sym (xor_assoc x b y) in
    let count : 8 + 8 * length bs ≡ 8 * length (b ∷ bs) = omega arith in
    ap (λ (z : ℕ). byte_steps (bit_steps 8 z) bs) last
    ∙ ap (λ (z : ℕ). byte_steps z bs) (bit_steps-xor 8 (bit_xor x b) y)
    ∙ byte_steps-xor (bit_steps 8 (bit_xor x b)) (bit_steps 8 y) bs
    ∙ ap (bit_xor (byte_steps (bit_steps 8 (bit_xor x b)) bs)) (sym (bit_steps-add 8 (8 * length bs) y))
    ∙ ap (λ (n : ℕ). bit_xor (byte_steps (bit_steps 8 (bit_xor x b)) bs) (bit_steps n y)) count

-- a byte is a zero in its place, and what it leaves itself
first_byte : (r a : ℕ) (rest : List ℕ) (n : ℕ) → 8 * length (0 ∷ rest) ≡ n → byte_steps r (a ∷ rest) ≡ bit_xor (byte_steps r (0 ∷ rest)) (bit_steps n a)
first_byte r a rest n bits =
    ap (λ (z : ℕ). byte_steps (bit_steps 8 z) rest) (sym (xor_zero_r (bit_xor r a)))
    ∙ byte_steps-xor r a (0 ∷ rest)
    ∙ ap (λ (k : ℕ). bit_xor (byte_steps r (0 ∷ rest)) (bit_steps k a)) bits

four_bytes : (r a b c e : ℕ) (rest : List ℕ) → length rest ≡ 36 → byte_steps r (a ∷ b ∷ c ∷ e ∷ rest)
    ≡ bit_xor (bit_xor (bit_xor (bit_xor (byte_steps r (0 ∷ 0 ∷ 0 ∷ 0 ∷ rest)) (bit_steps 296 e)) (bit_steps 304 c)) (bit_steps 312 b)) (bit_steps 320 a)
four_bytes r a b c e rest long =
    let s : ℕ = byte_step r 0 in
    let t : ℕ = byte_step s 0 in
    first_byte r a (b ∷ c ∷ e ∷ rest) 320 (omega arith)
    ∙ ap (λ (z : ℕ). bit_xor z (bit_steps 320 a)) (
    first_byte s b (c ∷ e ∷ rest) 312 (omega arith)
    ∙ ap (λ (z : ℕ). bit_xor z (bit_steps 312 b)) (
    first_byte t c (e ∷ rest) 304 (omega arith)
    ∙ ap (λ (z : ℕ). bit_xor z (bit_steps 304 c)) (first_byte (byte_step t 0) e rest 296 (omega arith))
    )
    )

abbrev behind : List ℕ
behind = framed (task_event ∷ []) ++ (to_be_bytes w64 16 ++ small_number [])

abbrev at_digest : ℕ
at_digest = byte_steps all_ones (to_be_bytes w64 4)

behind_long : length behind ≡ 36
unfolding framed_field
behind_long = refl

after_zeros : byte_steps at_digest (0 ∷ 0 ∷ 0 ∷ 0 ∷ behind) ≡ 0x0861_0569
unfolding bit_step bit_steps framed_field
after_zeros = refl

front_split : (a b c e : ℕ) → register_of (task_front (a ∷ b ∷ c ∷ e ∷ [])) ≡ byte_steps at_digest (a ∷ b ∷ c ∷ e ∷ behind)
unfolding framed_field
front_split a b c e = refl

pub front_is : (d : List ℕ) (x y z w : ℕ) → length d ≡ 4 → x ≡ bit_steps 296 (get_or d 3 0) → y ≡ bit_steps 304 (get_or d 2 0) → z ≡ bit_steps 312 (get_or d 1 0) → w ≡ bit_steps 320 (get_or d 0 0)
    → bit_xor (bit_xor (bit_xor (bit_xor 0x0861_0569 x) y) z) w ≡ register_of (task_front d)
front_is (a ∷ b ∷ c ∷ e ∷ []) x y z w four ex ey ez ew =
    rw (ex, ey, ez, ew) (
    ap (λ (o : ℕ). bit_xor (bit_xor (bit_xor (bit_xor o (bit_steps 296 e)) (bit_steps 304 c)) (bit_steps 312 b)) (bit_steps 320 a)) (sym after_zeros)
    ∙ sym (four_bytes at_digest a b c e behind behind_long)
    ∙ sym (front_split a b c e)
    )
front_is d x y z w four ex ey ez ew = absurd (omega arith)

front_then : (d low : List ℕ) → length d ≡ 4 → length low ≡ 8 → task_front d ++ low ≡ framed (d ∷ task_event ∷ small_number low ∷ [])
unfolding framed_field
front_then (a ∷ b ∷ c ∷ e ∷ []) (p ∷ q ∷ r ∷ s ∷ t ∷ u ∷ v ∷ w ∷ []) four eight = refl
front_then d low four eight = absurd (omega arith)

pub number_then : (d low : List ℕ) → length d ≡ 4 → length low ≡ 8 → byte_steps (register_of (task_front d)) low ≡ register_of (framed (d ∷ task_event ∷ small_number low ∷ []))
number_then d low four eight = sym (byte_steps-append all_ones (task_front d) low) ∙ ap register_of (front_then d low four eight)

high_zeros : (high low : List ℕ) → length high ≡ 8 → from_le_bytes w64 high ≡ 0 → high ++ low ≡ small_number low
high_zeros (a ∷ b ∷ c ∷ d ∷ e ∷ f ∷ g ∷ h ∷ []) low eight none =
    let za : a ≡ 0 = omega arith in
    let zb : b ≡ 0 = omega arith in
    let zc : c ≡ 0 = omega arith in
    let zd : d ≡ 0 = omega arith in
    let ze : e ≡ 0 = omega arith in
    let zf : f ≡ 0 = omega arith in
    let zg : g ≡ 0 = omega arith in
    let zh : h ≡ 0 = omega arith in
    cc
high_zeros high low eight none = absurd (omega arith)

-- sixteen bytes in two words, of which the first is 0
pub number_is : (number high rest low : List ℕ) → high ≡ take 8 number → rest ≡ drop 8 number → length rest + 8 ≡ length number → low ≡ take 8 rest → length rest ≡ 8 → from_le_bytes w64 high ≡ 0 → number ≡ small_number low
number_is (a ∷ b ∷ c ∷ d ∷ e ∷ f ∷ g ∷ h ∷ (i ∷ j ∷ k ∷ l ∷ m ∷ n ∷ o ∷ p ∷ [])) high rest low first second long third eight none =
    let low_is : low ≡ i ∷ j ∷ k ∷ l ∷ m ∷ n ∷ o ∷ p ∷ [] = third ∙ ap (take 8) second in
    let zero_is : from_le_bytes w64 (a ∷ b ∷ c ∷ d ∷ e ∷ f ∷ g ∷ h ∷ []) ≡ 0 = sym (ap (from_le_bytes w64) first) ∙ none in
    rw low_is (high_zeros (a ∷ b ∷ c ∷ d ∷ e ∷ f ∷ g ∷ h ∷ []) (i ∷ j ∷ k ∷ l ∷ m ∷ n ∷ o ∷ p ∷ []) refl zero_is)
number_is number high rest low first second long third eight none = absurd (omega arith)
