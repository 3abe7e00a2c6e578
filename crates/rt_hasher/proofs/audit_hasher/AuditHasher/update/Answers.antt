use Rattle.rt_hasher.proofs.Framed.{framed_field-steps, register-field}
use Rattle.rt_hasher.proofs.audit_hasher.AuditHasher.update.Goals as goal

pub returns-clause-register : goal.returns-clause-register
returns-clause-register c =
    let e = framed_field-steps c.args.self.now c.args.field.now in
    cc

pub returns-clause-fields : goal.returns-clause-fields
returns-clause-fields c = λ fields is.
    let e = framed_field-steps c.args.self.now c.args.field.now in
    let f = register-field fields c.args.field.now in
    cc
