use Rattle.rt_scripts.proofs.Worked.{ready-valid, sleeping-valid}
use Rattle.rt_scripts.proofs.WorkedTasks.{stopping-valid, stopping-within-valid}
use Rattle.rt_scripts.proofs.laws.small_scripts_are_valid.Goals as goal

pub returns-clause-ready : goal.returns-clause-ready
returns-clause-ready c = ready-valid

pub returns-clause-sleeping : goal.returns-clause-sleeping
returns-clause-sleeping c = sleeping-valid

pub returns-clause-stopping : goal.returns-clause-stopping
returns-clause-stopping c = stopping-valid

pub returns-clause-stopping_within : goal.returns-clause-stopping_within
returns-clause-stopping_within c = stopping-within-valid
