use Rattle.rt_metrics.proofs.Prelude.{◌≡◌, ◌≤◌, ◌-◌, spare, with_firsts}
use Rattle.rt_metrics.proofs.registry.put_firsts.Given as goal

-- what is still to come leads to the same values, and there is room for it
abbrev pub invariant-loop-id : goal.invariant-loop-id
invariant-loop-id l =
    (l.end - l.id ≤ spare l.values)
    × (with_firsts l.kind l.values.entries l.id (l.end - l.id) ≡ with_firsts l.kind l.fn.values.entries l.first (l.end - l.first))
