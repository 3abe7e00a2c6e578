use Rattle.rt_laws.proofs.Given.{single_order, single_round, even_order, odd_order, even_not_kept, odd_not_turned}
use Rattle.rt_laws.proofs.giving.a_draw_orders_two_numbers.Goals as goal

pub returns-clause-single : goal.returns-clause-single
returns-clause-single c = single_order

pub returns-clause-round : goal.returns-clause-round
returns-clause-round c = single_round

pub returns-clause-even : goal.returns-clause-even
returns-clause-even c = even_order

pub returns-clause-odd : goal.returns-clause-odd
returns-clause-odd c = odd_order

pub returns-clause-not_kept : goal.returns-clause-not_kept
returns-clause-not_kept c = even_not_kept

pub returns-clause-not_turned : goal.returns-clause-not_turned
returns-clause-not_turned c = odd_not_turned
