use Rattle.rt_laws.proofs.Doubled.{twice_run, twice_drawn}
use Rattle.rt_laws.proofs.twice.a_task_that_is_woken_twice_has_its_run.Goals as goal

pub returns-clause-run : goal.returns-clause-run
returns-clause-run c = twice_run

pub returns-clause-drawn : goal.returns-clause-drawn
returns-clause-drawn c = twice_drawn
