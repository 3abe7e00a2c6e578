use Rattle.rt_laws.proofs.Given.{one_order, one_left_of_order, order_permutes, one_round}
use Rattle.rt_laws.proofs.giving.a_stream_decides_the_order_of_a_round.Goals as goal

pub returns-clause-order : goal.returns-clause-order
returns-clause-order c = one_order

pub returns-clause-leaves : goal.returns-clause-leaves
returns-clause-leaves c = one_left_of_order

pub returns-clause-permutes : goal.returns-clause-permutes
returns-clause-permutes c = order_permutes

pub returns-clause-round : goal.returns-clause-round
returns-clause-round c = one_round
