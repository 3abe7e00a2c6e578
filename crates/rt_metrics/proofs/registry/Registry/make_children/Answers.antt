use Rattle.rt_metrics.proofs.Prelude.{◌≡◌, ◌≤◌, Some, lookup, nat_eq, rules, set_value_same, MetricState, RegistryState}
use Rattle.rt_metrics.proofs.Coherence.{keeps_child}
use Rattle.rt_metrics.proofs.Several.{made_at_once}
use Rattle.rt_metrics.proofs.registry.Registry.make_children.Goals as goal
use Rattle.rt_metrics.proofs.registry.Registry.make_children.Goals.{in-Some+in_ok-self-inside, in_default}

pub returns-in_err-self-inside-clause-refused : goal.returns-in_err-self-inside-clause-refused
returns-in_err-self-inside-clause-refused c = search (rules, set_value_same)

pub invariant_of-self-2 : goal.invariant_of-self-2
invariant_of-self-2 c = elim c.match-get_mut.branch [
  | in-Some+in_ok-self-inside w ↦
      let low : c.self.inside.next ≤ c.match-get_mut.self-inside.next = search rules in
      search (rules, keeps_child c.self.inside.next c.match-get_mut.self-inside.next low)
  | in_default w ↦ search rules
]

pub returns-clause-made : goal.returns-clause-made
returns-clause-made c = elim c.match-get_mut.branch [
  | in-Some+in_ok-self-inside w ↦
      let r : RegistryState = record { families = c.self.inside.families.entries; metrics = c.self.inside.metrics.entries; values = c.self.inside.values.entries; next = c.self.inside.next } in
      let m : MetricState = record { name = w.entry.inside.name; attributes = w.entry.inside.attributes; claims = w.entry.inside.claims; children = w.entry.inside.children.entries } in
      let some : lookup (nat_eq c.args.id) r.metrics ≡ Some m = search rules in
      let made = made_at_once c.args.kind c.args.id c.args.labels.now r m (w.number_missing.new.children.entries, c.match-get_mut.self-inside.next) some (search rules) in
      search (rules, made)
  | in_default w ↦ search rules
]
