use Rattle.rt_metrics.proofs.Prelude.{◌≡◌, rules, Some, lookup, FamilyState}
use Rattle.rt_metrics.proofs.Lookups.{same_text}
use Rattle.rt_metrics.proofs.Coherence.{left_nothing, left_written, left_removed}
use Rattle.rt_metrics.proofs.Maps.{remove_entry-set_value}
use Rattle.rt_metrics.proofs.registry.leave.Goals as goal

pub returns-then-is_empty-clause-left : goal.returns-then-is_empty-clause-left
returns-then-is_empty-clause-left c = search (rules, remove_entry-set_value)

pub returns-then-is_empty-clause-change : goal.returns-then-is_empty-clause-change
returns-then-is_empty-clause-change c =
    let was : FamilyState = record { help = c.family.inside.help; kind = c.family.inside.kind; members = c.family.inside.members.entries } in
    let is : FamilyState = record { help = c.family.inside.help; kind = c.family.inside.kind; members = c.swap_remove.new.self.entries } in
    let some : lookup (same_text c.args.name.now) c.args.families.now.entries ≡ Some was = search rules in
    left_removed c.args.families.now.entries (c.get_mut.follows.lender is).entries c.remove.new.self.entries c.args.name.now c.args.attributes.now was is some
    (c.get_mut.follows.holds is).0 c.remove.ensures.updates.0 (search rules) c.swap_remove.ensures.updates.0

pub returns-else-is_empty-clause-change : goal.returns-else-is_empty-clause-change
returns-else-is_empty-clause-change c =
    let was : FamilyState = record { help = c.family.inside.help; kind = c.family.inside.kind; members = c.family.inside.members.entries } in
    let is : FamilyState = record { help = c.family.inside.help; kind = c.family.inside.kind; members = c.swap_remove.new.self.entries } in
    let some : lookup (same_text c.args.name.now) c.args.families.now.entries ≡ Some was = search rules in
    rw (c.get_mut.follows.holds is).0 (left_written c.args.families.now.entries c.args.name.now c.args.attributes.now was is some c.swap_remove.ensures.updates.0)

pub returns-in_default-clause-change : goal.returns-in_default-clause-change
returns-in_default-clause-change c = search (rules, left_nothing)
