use Rattle.rt_walk.proofs.Prelude.{ℕ, length, ◌≤◌, ◌<◌, get_or}
use Rattle.rt_walk.proofs.running.Running.place_of.Given as goal

abbrev pub invariant-loop-place : goal.invariant-loop-place
invariant-loop-place l = record {
  within : l.place ≤ length l.self-inside.numbers.items;
  above : (j : ℕ) → l.place ≤ j → j < length l.self-inside.numbers.items → l.task < get_or l.self-inside.numbers.items j 0;
}

abbrev pub decreases-loop-place : goal.decreases-loop-place
decreases-loop-place l = l.place
