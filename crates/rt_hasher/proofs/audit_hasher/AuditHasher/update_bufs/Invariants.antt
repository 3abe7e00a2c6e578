use Rattle.std.proofs.Common.{◌≡◌, length, take}
use Rattle.std.specs.List.{concat}
use Rattle.std.specs.Int.{w64, to_be_bytes}
use Rattle.rt_hasher.specs.Crc32c.{byte_steps}
use Rattle.rt_hasher.proofs.audit_hasher.AuditHasher.update_bufs.Given as goal

abbrev pub invariant-loop-index : goal.invariant-loop-index
invariant-loop-index l =
    l.self-inside.checksum ≡ byte_steps (byte_steps l.fn.self (to_be_bytes w64 (length l.bufs.bytes))) (concat (take l.index l.bufs.chunks))
