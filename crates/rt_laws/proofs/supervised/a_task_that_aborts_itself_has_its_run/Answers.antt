use Rattle.rt_laws.proofs.Spawned.{aborting_run, aborting_time}
use Rattle.rt_laws.proofs.supervised.a_task_that_aborts_itself_has_its_run.Goals as goal

pub returns-clause-run : goal.returns-clause-run
returns-clause-run c = aborting_run

pub returns-clause-time : goal.returns-clause-time
returns-clause-time c = aborting_time
