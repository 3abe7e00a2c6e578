use Rattle.rt_core.proofs.Prelude.{◌≡◌, ◌+◌, ◌++◌, map, vec_len, deque_len, deque_capacity, into_iter_items, into_iter_len}
use Rattle.rt_core.proofs.join_all.filled.Given as goal

abbrev pub invariant-loop-guard : goal.invariant-loop-guard
invariant-loop-guard g l = record {
  handles : l.handles.items ++ map (λ guard. guard.handle) (into_iter_items l.rest) ≡ map (λ guard. guard.handle) l.fn.guards.items;
  len : deque_len l.handles + into_iter_len l.rest ≡ vec_len l.fn.guards;
  capacity : deque_capacity l.handles ≡ deque_capacity l.fn.room;
}

abbrev pub decreases-loop-guard : goal.decreases-loop-guard
decreases-loop-guard g l = into_iter_len l.rest
