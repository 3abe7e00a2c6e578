use Rattle.std.proofs.Common.{length, ◌-◌, ◌≡◌, ◌≤◌, ◌++◌, take, drop}
use Rattle.rt_model.specs.Lists.{with_number}
use Rattle.rt_runs_tests.proofs.numbers.add_number.Given as goal

abbrev pub invariant-loop-index : goal.invariant-loop-index
invariant-loop-index l = record {
  within : l.index ≤ length l.numbers.items;
  passed : with_number l.number l.numbers.items ≡ take l.index l.numbers.items ++ with_number l.number (drop l.index l.numbers.items);
}

abbrev pub decreases-loop-index : goal.decreases-loop-index
decreases-loop-index l = length l.numbers.items - l.index
