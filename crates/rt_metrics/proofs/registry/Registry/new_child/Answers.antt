use Rattle.rt_metrics.proofs.Prelude.{arith, rules, set_value_same, ◌+◌}
use Rattle.rt_metrics.proofs.Coherence.{keeps_child, keeps_later}
use Rattle.rt_metrics.proofs.registry.Registry.new_child.Goals as goal
use Rattle.rt_metrics.proofs.registry.Registry.new_child.Goals.{in-Some-get_mut+in_ok-insert, in_default-get_mut}

pub returns-in_err-insert-clause-refused : goal.returns-in_err-insert-clause-refused
returns-in_err-insert-clause-refused c = search (rules, set_value_same)

pub invariant_of-self-2 : goal.invariant_of-self-2
invariant_of-self-2 c =
    let next = c.self.inside.next in
    elim c.match-get_mut.branch [
      | in-Some-get_mut+in_ok-insert w ↦ search (rules, keeps_child next (next + 1) (omega arith))
      | in_default-get_mut w ↦ search (rules, keeps_later next (next + 1) (omega arith))
    ]
