use Rattle.rt_walk.proofs.Prelude.{length, ◌-◌, ◌≡◌, ◌≤◌, drop, from_running}
use Rattle.rt_walk.proofs.running.Running.idle_front.Given as goal

abbrev pub invariant-loop-index : goal.invariant-loop-index
invariant-loop-index l = record {
  within : l.index ≤ length l.left;
  passed : from_running l.self (drop l.index l.left) ≡ from_running l.self l.left;
}

abbrev pub decreases-loop-index : goal.decreases-loop-index
decreases-loop-index l = length l.left - l.index
