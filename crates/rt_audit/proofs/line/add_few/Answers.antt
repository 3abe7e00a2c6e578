use Rattle.std.proofs.Common.{rules, arith}
use Rattle.rt_audit.proofs.Digits.{two_digits, three_digits, four_digits}
use Rattle.rt_audit.proofs.line.add_few.Goals as goal

pub returns-then-hundreds-eq0 : goal.returns-then-hundreds-eq0
returns-then-hundreds-eq0 c =
    rw (two_digits c.args.number (omega arith) (omega arith)) (search rules)

pub returns-then-hundreds-lt10 : goal.returns-then-hundreds-lt10
returns-then-hundreds-lt10 c =
    rw (three_digits c.args.number (omega arith) (omega arith)) (search rules)

pub returns : goal.returns
returns c =
    rw (four_digits c.args.number (omega arith) (omega arith)) (search rules)
