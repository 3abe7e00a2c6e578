use Rattle.std.proofs.Common.{◌≡◌, ◌∙◌, ap, sym, ℕ, take, length, arith}
use Rattle.std.proofs.lemmas.List.{take_all}
use Rattle.std.specs.List.{concat}
use Rattle.std.specs.Int.{w64, to_be_bytes}
use Rattle.rt_hasher.specs.Crc32c.{byte_steps}
use Rattle.rt_hasher.specs.Framing.{framed_field}
use Rattle.rt_hasher.proofs.Linear.{byte_steps-append}
use Rattle.rt_hasher.proofs.Framed.{framed_field-steps, register-field}
use Rattle.rt_hasher.proofs.audit_hasher.AuditHasher.update_bufs.Goals as goal

pub loop-index-preserved : goal.loop-index-preserved
loop-index-preserved c =
    let start : ℕ = byte_steps c.args.self.now (to_be_bytes w64 (length c.args.bufs.now.bytes)) in
    let e = byte_steps-append start (concat (take c.loop-index.index c.args.bufs.now.chunks)) c.chunk_at.result.now in
    cc

pub returns-clause-register : goal.returns-clause-register
returns-clause-register c =
    let all : take c.loop-index.index c.args.bufs.now.chunks ≡ c.args.bufs.now.chunks =
    take_all c.loop-index.index c.args.bufs.now.chunks (omega arith) in
    let e = framed_field-steps c.args.self.now c.args.bufs.now.bytes in
    cc

pub returns-clause-fields : goal.returns-clause-fields
returns-clause-fields c = λ fields is.
    returns-clause-register c
    ∙ ap (λ (r : ℕ). byte_steps r (framed_field c.args.bufs.now.bytes)) is
    ∙ sym (register-field fields c.args.bufs.now.bytes)
