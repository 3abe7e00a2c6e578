use Rattle.rt_super.proofs.Prelude.{◌≡◌, ◌≤◌, length, reverse, vec_capacity, flat_map, deque_capacity, subtree, placed, is_marked, parents, marks_set, task_at}
use Rattle.rt_super.proofs.Walk.{IsWalk}
use Rattle.rt_super.proofs.ending.end_subtree.Given as goal

abbrev pub invariant-loop-at : goal.invariant-loop-at
invariant-loop-at l = record {
  walk : IsWalk (parents l.nodes) (task_at l.nodes) (is_marked l.fn.ended) l.fn.flags.items l.fn.node (is_marked l.ended) l.pending.items l.flags.items;
  few : length l.flags.items ≤ marks_set l.ended;
  visits : vec_capacity l.pending ≡ vec_capacity l.fn.pending;
  room : deque_capacity l.flags ≡ deque_capacity l.fn.flags;
}

abbrev pub decreases-loop-at : goal.decreases-loop-at
decreases-loop-at l = length (flat_map (subtree (placed 0 (parents l.nodes))) (reverse l.pending.items))
