use Rattle.rt_super.proofs.Prelude.{◌≡◌, ◌++◌, ◌≤◌, length, reverse, drop, vec_capacity}
use Rattle.rt_super.proofs.ending.push_children.Given as goal

abbrev pub invariant-loop-left : goal.invariant-loop-left
invariant-loop-left l = record {
  within : l.left ≤ length l.children;
  pushed : l.pending.items ≡ l.fn.pending.items ++ reverse (drop l.left l.children);
  room : vec_capacity l.pending ≡ vec_capacity l.fn.pending;
}

abbrev pub decreases-loop-left : goal.decreases-loop-left
decreases-loop-left l = l.left
