use Rattle.rt_laws.proofs.Runs.{ready_run}
use Rattle.rt_laws.proofs.examples.a_ready_root_has_its_run.Goals as goal

pub returns-clause-run : goal.returns-clause-run
returns-clause-run c = ready_run
