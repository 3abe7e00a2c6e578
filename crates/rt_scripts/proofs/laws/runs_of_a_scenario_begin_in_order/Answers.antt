use Rattle.rt_scripts.proofs.InOrder.{chain-in-order}
use Rattle.rt_scripts.proofs.laws.runs_of_a_scenario_begin_in_order.Goals as goal

pub returns : goal.returns
returns g = chain-in-order
