use Rattle.rt_laws.proofs.Spawned.{stopping_run, stopping_time}
use Rattle.rt_laws.proofs.supervised.a_task_that_aborts_itself_and_is_pending_has_its_run.Goals as goal

pub returns-clause-run : goal.returns-clause-run
returns-clause-run c = stopping_run

pub returns-clause-time : goal.returns-clause-time
returns-clause-time c = stopping_time
