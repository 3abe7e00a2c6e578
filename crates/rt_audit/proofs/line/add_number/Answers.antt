use Rattle.std.proofs.Common.{rules}
use Rattle.rt_audit.proofs.Digits.{one_digit}
use Rattle.rt_audit.proofs.line.add_number.Goals as goal

pub returns-then-number-lt10 : goal.returns-then-number-lt10
returns-then-number-lt10 c = rw (one_digit c.args.number (search rules)) (search rules)
