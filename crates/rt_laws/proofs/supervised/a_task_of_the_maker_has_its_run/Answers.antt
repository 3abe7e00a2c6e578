use Rattle.rt_laws.proofs.Spawned.{side_run, side_time}
use Rattle.rt_laws.proofs.supervised.a_task_of_the_maker_has_its_run.Goals as goal

pub returns-clause-run : goal.returns-clause-run
returns-clause-run c = side_run

pub returns-clause-time : goal.returns-clause-time
returns-clause-time c = side_time
