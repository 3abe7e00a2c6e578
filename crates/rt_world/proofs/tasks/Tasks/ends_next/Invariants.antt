use Rattle.rt_world.proofs.Prelude.{◌≤◌, ◌-◌, length, ArePassed}
use Rattle.rt_world.proofs.tasks.Tasks.ends_next.Given as goal

abbrev pub invariant-loop-place : goal.invariant-loop-place
invariant-loop-place g l = record {
  within : l.place ≤ length l.self-inside.places.items;
  passed : ArePassed l.root l.self-inside.first l.place l.self-inside.places.items;
}

abbrev pub decreases-loop-place : goal.decreases-loop-place
decreases-loop-place g l = length l.self-inside.places.items - l.place
