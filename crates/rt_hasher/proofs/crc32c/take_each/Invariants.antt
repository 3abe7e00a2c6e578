use Rattle.std.proofs.Common.{◌≡◌, drop}
use Rattle.rt_hasher.specs.Crc32c.{byte_steps}
use Rattle.rt_hasher.proofs.crc32c.take_each.Given as goal

abbrev pub invariant-loop-byte : goal.invariant-loop-byte
invariant-loop-byte l = byte_steps l.register (drop l.byte-index l.bytes) ≡ byte_steps l.fn.register l.bytes
