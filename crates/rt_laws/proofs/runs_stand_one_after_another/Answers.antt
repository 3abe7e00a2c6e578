use Rattle.rt_laws.proofs.Several.{join_runs, run_alone, runs_apart}
use Rattle.rt_laws.proofs.runs_stand_one_after_another.Goals as goal

pub returns-clause-joined : goal.returns-clause-joined
returns-clause-joined c = join_runs

pub returns-clause-alone : goal.returns-clause-alone
returns-clause-alone c = run_alone

pub returns-clause-apart : goal.returns-clause-apart
returns-clause-apart c = runs_apart
