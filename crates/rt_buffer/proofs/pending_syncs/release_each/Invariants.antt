use Rattle.rt_buffer.proofs.Prelude.{◌≡◌, take, drop, all_released, outcome}
use Rattle.rt_buffer.proofs.pending_syncs.release_each.Given as goal

abbrev pub invariant-loop-left : goal.invariant-loop-left
invariant-loop-left l =
    (all_released (outcome l.fails) (take l.left l.queue.items) l.parked.items ≡ all_released (outcome l.fn.fails) (take l.fn.count l.fn.queue.items) l.fn.parked.items)
    × (drop l.left l.queue.items ≡ drop l.fn.count l.fn.queue.items)

abbrev pub decreases-loop-left : goal.decreases-loop-left
decreases-loop-left l = l.left
