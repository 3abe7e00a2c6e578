use Rattle.rt_metrics.proofs.Prelude.{rules, set_value_same}
use Rattle.rt_metrics.proofs.registry.Registry.remove_child.Goals as goal

pub returns-in-None-clause-removed : goal.returns-in-None-clause-removed
returns-in-None-clause-removed c = search (rules, set_value_same)
