use Rattle.rt_laws.proofs.Runs.{skipped_run, short_run}
use Rattle.rt_laws.proofs.examples.a_sleeping_root_has_its_run.Goals as goal

pub returns-clause-skipped : goal.returns-clause-skipped
returns-clause-skipped c = skipped_run

pub returns-clause-short : goal.returns-clause-short
returns-clause-short c = short_run
