use Rattle.rt_scripts.proofs.WorkedTasks.{aborting-valid, pending-valid, spawned-valid}
use Rattle.rt_scripts.proofs.laws.scripts_with_tasks_are_valid.Goals as goal

pub returns-clause-beside : goal.returns-clause-beside
returns-clause-beside c = spawned-valid

pub returns-clause-aborting : goal.returns-clause-aborting
returns-clause-aborting c = aborting-valid

pub returns-clause-pending : goal.returns-clause-pending
returns-clause-pending c = pending-valid
