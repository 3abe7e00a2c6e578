use Rattle.std.proofs.Common.{◌≡◌, ℕ, ◌/◌, ◌%◌, bit_xor, ap, sym, ◌∙◌}
use Rattle.rt_hasher.specs.Crc32c.{bit_steps}
use Rattle.rt_hasher.proofs.Linear.{bit_steps-low}
use Rattle.rt_hasher.proofs.crc32c.take_byte.Goals as goal

low_byte : (x : ℕ) → bit_steps 8 x ≡ bit_xor (bit_steps 8 (x % 256)) (x / 256)
unfolding bit_steps
low_byte x = bit_steps-low 0 x

pub returns : goal.returns
returns c = ap (λ (z : ℕ). bit_xor z (bit_xor c.args.register c.args.byte / 256)) c.remainder.ensures ∙ sym (low_byte (bit_xor c.args.register c.args.byte))
