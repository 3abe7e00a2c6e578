use Rattle.rt_laws.proofs.ValidAborting.{aborting_valid, pending_valid}
use Rattle.rt_laws.proofs.ValidSide.{side_valid}
use Rattle.rt_laws.proofs.supervised.inputs_with_spawned_tasks_are_valid.Goals as goal

pub returns-clause-side : goal.returns-clause-side
returns-clause-side c = side_valid

pub returns-clause-aborting : goal.returns-clause-aborting
returns-clause-aborting c = aborting_valid

pub returns-clause-stopping : goal.returns-clause-stopping
returns-clause-stopping c = pending_valid
