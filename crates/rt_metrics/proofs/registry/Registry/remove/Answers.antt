use Rattle.rt_metrics.proofs.Prelude.{◌≡◌, rules, Some, nat_eq, lookup, MetricState}
use Rattle.rt_metrics.proofs.Coherence.{keeps_removed}
use Rattle.rt_metrics.proofs.registry.Registry.remove.Goals as goal

pub invariant_of-self-2 : goal.invariant_of-self-2
invariant_of-self-2 c =
    let was : MetricState = record { name = c.entry.inside.name; attributes = c.entry.inside.attributes; claims = c.entry.inside.claims; children = c.entry.inside.children.entries } in
    let some : lookup (nat_eq c.args.id) c.self.inside.metrics.entries ≡ Some was = search rules in
    keeps_removed c.self.inside.families.entries c.leave.new.families.entries c.self.inside.metrics.entries c.swap_remove.new.self.entries c.self.inside.next c.args.id was
    c.self.invariant some c.leave.ensures.change c.swap_remove.ensures.updates.0
