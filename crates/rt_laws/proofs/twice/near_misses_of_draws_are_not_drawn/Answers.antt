use Rattle.rt_laws.proofs.Doubled.{no_other_place, no_plain_order, no_missing_draw, no_second_draw, no_draw_too_many}
use Rattle.rt_laws.proofs.twice.near_misses_of_draws_are_not_drawn.Goals as goal

pub returns-clause-other_place : goal.returns-clause-other_place
returns-clause-other_place c = no_other_place

pub returns-clause-unturned : goal.returns-clause-unturned
returns-clause-unturned c = no_plain_order

pub returns-clause-missing_draw : goal.returns-clause-missing_draw
returns-clause-missing_draw c order = no_missing_draw order

pub returns-clause-second_draw : goal.returns-clause-second_draw
returns-clause-second_draw c one two order = no_second_draw one two order

pub returns-clause-one_too_many : goal.returns-clause-one_too_many
returns-clause-one_too_many c one two = no_draw_too_many one two
