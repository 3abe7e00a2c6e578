use Rattle.rt_laws.proofs.Ends.{not_valid}
use Rattle.rt_laws.proofs.Valid.{ready_valid, sleeping_valid}
use Rattle.rt_laws.proofs.examples.small_inputs_are_valid.Goals as goal

pub returns-clause-ready : goal.returns-clause-ready
returns-clause-ready c = ready_valid

pub returns-clause-sleeping : goal.returns-clause-sleeping
returns-clause-sleeping c = sleeping_valid

pub returns-clause-pending : goal.returns-clause-pending
returns-clause-pending c = not_valid
