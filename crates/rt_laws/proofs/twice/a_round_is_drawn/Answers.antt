use Rattle.rt_laws.proofs.Prelude.{refl}
use Rattle.rt_laws.proofs.Doubled.{its_place, its_turned_place, its_draw}
use Rattle.rt_laws.proofs.twice.a_round_is_drawn.Goals as goal

pub returns-clause-place : goal.returns-clause-place
returns-clause-place c = its_place

pub returns-clause-turned : goal.returns-clause-turned
returns-clause-turned c = its_turned_place

pub returns-clause-three : goal.returns-clause-three
returns-clause-three c = refl

pub returns-clause-draw : goal.returns-clause-draw
returns-clause-draw c one = its_draw one
