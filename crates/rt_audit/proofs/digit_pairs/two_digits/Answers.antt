use Rattle.std.proofs.Common.{arith}
use Rattle.rt_audit.proofs.Pairs.{pair_is}
use Rattle.rt_audit.proofs.digit_pairs.two_digits.Goals as goal

pub returns : goal.returns
returns c = pair_is c.args.number c.requires
