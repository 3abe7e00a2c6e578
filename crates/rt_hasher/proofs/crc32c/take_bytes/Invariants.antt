use Rattle.std.proofs.Common.{◌≡◌, length}
use Rattle.rt_hasher.specs.Crc32c.{byte_steps}
use Rattle.rt_hasher.proofs.crc32c.take_bytes.Given as goal

abbrev pub invariant-loop-word : goal.invariant-loop-word
invariant-loop-word l = byte_steps l.register l.left ≡ byte_steps l.fn.register l.bytes

abbrev pub decreases-loop-word : goal.decreases-loop-word
decreases-loop-word l = length l.left
