use Rattle.std.proofs.Common.{rules}
use Rattle.rt_hasher.proofs.Fronted.{front_is}
use Rattle.rt_hasher.proofs.crc32c.Crc32c.at_task.Goals as goal

pub returns : goal.returns
returns c = front_is c.args.digest _ _ _ _ (search rules) c.task_remainder.ensures c.task_remainder-2.ensures c.task_remainder-3.ensures c.task_remainder-4.ensures
