use Rattle.rt_laws.proofs.Given.{one_left, one_drawn}
use Rattle.rt_laws.proofs.giving.what_a_stream_gave_leaves_one_stream.Goals as goal

pub returns-clause-gave : goal.returns-clause-gave
returns-clause-gave c = one_left

pub returns-clause-draws : goal.returns-clause-draws
returns-clause-draws c = one_drawn
