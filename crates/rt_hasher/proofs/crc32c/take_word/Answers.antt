use Rattle.std.proofs.Common.{◌≡◌, ◌<◌, ◌^◌, ℕ, List, get_or, bit_xor, sym, ◌∙◌, arith, rules}
use Rattle.std.proofs.lemmas.Nat.{xor_lt}
use Rattle.std.specs.Int.{w64, to_le_bytes}
use Rattle.rt_hasher.specs.Crc32c.{bit_steps}
use Rattle.rt_hasher.proofs.Linear.{bit_steps-word, sum-word}
use Rattle.rt_hasher.proofs.crc32c.take_word.Goals as goal

looked_up : (x : ℕ) (bs : List ℕ) (a b c d e f g h : ℕ) → x < 2 ^ 64 → bs ≡ to_le_bytes w64 x
    → a ≡ bit_steps 64 (get_or bs 0 0) → b ≡ bit_steps 56 (get_or bs 1 0) → c ≡ bit_steps 48 (get_or bs 2 0)
    → d ≡ bit_steps 40 (get_or bs 3 0) → e ≡ bit_steps 32 (get_or bs 4 0) → f ≡ bit_steps 24 (get_or bs 5 0)
    → g ≡ bit_steps 16 (get_or bs 6 0) → h ≡ bit_steps 8 (get_or bs 7 0)
    → bit_xor (bit_xor (bit_xor (bit_xor (bit_xor (bit_xor (bit_xor a b) c) d) e) f) g) h ≡ bit_steps 64 x
looked_up x bs a b c d e f g h wide bytes ea eb ec ed ee ef eg eh =
    rw (ea, eb, ec, ed, ee, ef, eg, eh, bytes) (sym (bit_steps-word x wide))

pub returns : goal.returns
returns c =
    let x : ℕ = bit_xor c.from_le_bytes.result c.args.register in
    let wide : x < 2 ^ 64 = xor_lt 64 c.from_le_bytes.result c.args.register (omega arith) (omega arith) in
    looked_up x c.to_le_bytes.result _ _ _ _ _ _ _ _ wide c.to_le_bytes.ensures
    c.remainder.ensures c.remainder-2.ensures c.remainder-3.ensures c.remainder-4.ensures c.remainder-5.ensures c.remainder-6.ensures c.remainder-7.ensures c.remainder-8.ensures
    ∙ sum-word c.args.register c.from_le_bytes.result c.args.word (search rules) (search rules) c.from_le_bytes.ensures
