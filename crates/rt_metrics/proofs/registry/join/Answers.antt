use Rattle.rt_metrics.proofs.Prelude.{rules, set_value_same}
use Rattle.rt_metrics.proofs.registry.join.Goals as goal

pub returns-in_err-insert-in-Some-clause-refused :
    goal.returns-in_err-insert-in-Some-clause-refused
returns-in_err-insert-in-Some-clause-refused c = search (rules, set_value_same)
