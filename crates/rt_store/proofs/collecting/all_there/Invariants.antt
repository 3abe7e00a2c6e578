use Rattle.rt_store.proofs.Prelude.{◌≡◌, ◌++◌, map, Some, into_iter_items}
use Rattle.rt_store.proofs.collecting.all_there.Given as goal

abbrev pub invariant-loop-slot : goal.invariant-loop-slot
invariant-loop-slot l = map Some l.bufs.items ++ into_iter_items l.slot-iterator ≡ l.fn.slots.items
