use Rattle.rt_scripts.proofs.Worked.{ready-run, skipped-run, short-run}
use Rattle.rt_scripts.proofs.laws.small_scripts_have_their_runs.Goals as goal

pub returns-clause-ready : goal.returns-clause-ready
returns-clause-ready c = ready-run

pub returns-clause-skipped : goal.returns-clause-skipped
returns-clause-skipped c = skipped-run

pub returns-clause-short : goal.returns-clause-short
returns-clause-short c = short-run
