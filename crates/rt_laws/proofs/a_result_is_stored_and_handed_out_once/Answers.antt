use Rattle.rt_laws.proofs.Results.{ends_once, stored_at_end, handed_once}
use Rattle.rt_laws.proofs.a_result_is_stored_and_handed_out_once.Goals as goal

pub returns-clause-ends : goal.returns-clause-ends
returns-clause-ends c = ends_once

pub returns-clause-stored : goal.returns-clause-stored
returns-clause-stored c = stored_at_end

pub returns-clause-handed_out : goal.returns-clause-handed_out
returns-clause-handed_out c = handed_once
