use Rattle.std.proofs.Common.{arith}
use Rattle.rt_hasher.proofs.Tabled.{entry_is}
use Rattle.rt_hasher.proofs.crc32c_tables.remainder.Goals as goal

pub returns : goal.returns
returns c = entry_is c.args.zeros c.args.byte c.requires (omega arith)
