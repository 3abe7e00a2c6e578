use Rattle.rt_metrics.proofs.Prelude.{◌≡◌, fold, values_of, without_value}
use Rattle.rt_metrics.proofs.registry.forget.Given as goal

-- what is still to be removed leads to the same values
abbrev pub invariant-loop-child : goal.invariant-loop-child
invariant-loop-child l = fold without_value l.values.entries l.child-iterator ≡ fold without_value l.fn.values.entries (values_of l.fn.children.entries)
