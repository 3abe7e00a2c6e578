use Rattle.std.proofs.Common.{◌≡◌, ◌<◌, ◌^◌, ℕ, List, get_or, bit_xor, sym, ◌∙◌, arith, rules}
use Rattle.std.proofs.lemmas.Nat.{xor_lt}
use Rattle.std.specs.Int.{w32, to_le_bytes}
use Rattle.rt_hasher.specs.Crc32c.{bit_steps}
use Rattle.rt_hasher.proofs.Linear.{bit_steps-half, sum-half}
use Rattle.rt_hasher.proofs.crc32c.take_half.Goals as goal

looked_up : (x : ℕ) (bs : List ℕ) (a b c d : ℕ) → x < 2 ^ 32 → bs ≡ to_le_bytes w32 x
    → a ≡ bit_steps 32 (get_or bs 0 0) → b ≡ bit_steps 24 (get_or bs 1 0) → c ≡ bit_steps 16 (get_or bs 2 0) → d ≡ bit_steps 8 (get_or bs 3 0)
    → bit_xor (bit_xor (bit_xor a b) c) d ≡ bit_steps 32 x
looked_up x bs a b c d wide bytes ea eb ec ed = rw (ea, eb, ec, ed, bytes) (sym (bit_steps-half x wide))

pub returns : goal.returns
returns c =
    let x : ℕ = bit_xor c.from_le_bytes.result c.args.register in
    let wide : x < 2 ^ 32 = xor_lt 32 c.from_le_bytes.result c.args.register (omega arith) (omega arith) in
    looked_up x c.to_le_bytes.result _ _ _ _ wide c.to_le_bytes.ensures
    c.remainder.ensures c.remainder-2.ensures c.remainder-3.ensures c.remainder-4.ensures
    ∙ sum-half c.args.register c.from_le_bytes.result c.args.half (search rules) (search rules) c.from_le_bytes.ensures
