use Rattle.rt_store.proofs.Prelude.{◌≡◌, ◌≤◌, None, replicate}
use Rattle.rt_store.proofs.collecting.empty_slots.Given as goal

abbrev pub invariant-loop : goal.invariant-loop
invariant-loop l = (l.slots.items ≡ replicate l.counter None) × (l.counter ≤ l.ranges)
