use Rattle.std.proofs.Common.{◌≡◌, ◌∙◌, ap}
use Rattle.std.specs.Int.{w32, to_be_bytes}
use Rattle.rt_hasher.specs.Crc32c.{crc32c}
use Rattle.rt_hasher.specs.Framing.{framed}
use Rattle.rt_hasher.specs.Digest.{fields_digest}
use Rattle.rt_hasher.proofs.Framed.{framed_one_way}
use Rattle.rt_hasher.proofs.audit_hasher.AuditHasher.finalize.Goals as goal

pub returns-clause-digest : goal.returns-clause-digest
unfolding fields_digest
returns-clause-digest c = λ fields is.
    let e : c.finish.result ≡ crc32c (framed fields) = c.finish.ensures.checksum (framed fields) cc in
    c.to_be_bytes.ensures ∙ ap (to_be_bytes w32) e

pub returns-clause-one_way : goal.returns-clause-one_way
returns-clause-one_way c = framed_one_way
