use Rattle.rt_walk.proofs.Prelude.{◌≡◌, ◌++◌, ◌≤◌, length, reverse, drop}
use Rattle.rt_walk.proofs.below.push_turned.Given as goal

abbrev pub invariant-loop-left : goal.invariant-loop-left
invariant-loop-left l = record {
  within : l.left ≤ length l.numbers;
  pushed : l.pending.items ≡ l.fn.pending.items ++ reverse (drop l.left l.numbers);
}

abbrev pub decreases-loop-left : goal.decreases-loop-left
decreases-loop-left l = l.left
