use Rattle.rt_walk.proofs.Prelude.{refl}
use Rattle.rt_walk.proofs.walker.Walker.answers.Goals as goal

pub returns-in-NextU32 : goal.returns-in-NextU32
returns-in-NextU32 c = rw c.in-NextU32.is (c.is_number.ensures.short c.args.self.now refl)

pub returns-in-NextU64 : goal.returns-in-NextU64
returns-in-NextU64 c = rw c.in-NextU64.is (c.is_number-in-NextU64.ensures.long c.args.self.now refl)

pub returns-in-FillBytes : goal.returns-in-FillBytes
returns-in-FillBytes c = rw c.in-FillBytes.is (c.are_bytes.ensures.filled c.args.self.now)

pub returns-in-Auditor : goal.returns-in-Auditor
returns-in-Auditor c = rw c.in-Auditor.is (c.are_bytes-in-Auditor.ensures.digest c.args.self.now refl)
