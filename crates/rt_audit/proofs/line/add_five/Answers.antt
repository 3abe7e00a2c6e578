use Rattle.std.proofs.Common.{rules, arith}
use Rattle.rt_audit.proofs.Digits.{five_digits}
use Rattle.rt_audit.proofs.line.add_five.Goals as goal

pub returns : goal.returns
returns c =
    rw (five_digits c.args.number (omega arith) (omega arith)) (search rules)
