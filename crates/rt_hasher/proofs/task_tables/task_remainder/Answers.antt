use Rattle.std.proofs.Common.{arith}
use Rattle.rt_hasher.proofs.TaskTabled.{task_entry_is}
use Rattle.rt_hasher.proofs.task_tables.task_remainder.Goals as goal

pub returns : goal.returns
returns c = task_entry_is c.args.behind c.args.byte c.requires (omega arith)
