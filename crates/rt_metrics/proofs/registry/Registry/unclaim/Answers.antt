use Rattle.rt_metrics.proofs.Prelude.{rules}
use Rattle.rt_metrics.proofs.Coherence.{keeps_written}
use Rattle.rt_metrics.proofs.registry.Registry.unclaim.Goals as goal
use Rattle.rt_metrics.proofs.registry.Registry.unclaim.Goals.{in-Some, in_default}

pub invariant_of-self : goal.invariant_of-self
invariant_of-self c = elim c.match-get_mut.branch [ in-Some w ↦ search (rules, keeps_written) | in_default w ↦ search rules ]
