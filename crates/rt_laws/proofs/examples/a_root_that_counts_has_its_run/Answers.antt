use Rattle.rt_laws.proofs.Runs.{counting_polls, counting_run}
use Rattle.rt_laws.proofs.examples.a_root_that_counts_has_its_run.Goals as goal

pub returns-clause-run : goal.returns-clause-run
returns-clause-run c = counting_run

pub returns-clause-poll : goal.returns-clause-poll
returns-clause-poll c = counting_polls
