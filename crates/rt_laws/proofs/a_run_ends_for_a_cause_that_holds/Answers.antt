use Rattle.rt_laws.proofs.Endings.{run_cause}
use Rattle.rt_laws.proofs.a_run_ends_for_a_cause_that_holds.Goals as goal

pub returns-clause-reached : goal.returns-clause-reached
returns-clause-reached c = run_cause
