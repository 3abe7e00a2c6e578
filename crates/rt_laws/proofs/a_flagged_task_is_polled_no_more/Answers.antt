use Rattle.rt_laws.proofs.Flags.{polled_no_more}
use Rattle.rt_laws.proofs.a_flagged_task_is_polled_no_more.Goals as goal

pub returns : goal.returns
returns c = polled_no_more
