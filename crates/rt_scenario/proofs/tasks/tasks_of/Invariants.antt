use Rattle.rt_scenario.proofs.Prelude.{◌≡◌, ◌+◌, ◌<◌, ◌^◌, length, tasks_at, spawned_in, capped}
use Rattle.rt_scenario.proofs.tasks.tasks_of.Given as goal

abbrev pub invariant-loop-line : goal.invariant-loop-line
invariant-loop-line l = (capped (l.total + tasks_at l.fn.tasks (spawned_in l.rest)) ≡ capped (1 + tasks_at l.fn.tasks (spawned_in l.fn.lines))) × (l.total < 2 ^ 64)

abbrev pub decreases-loop-line : goal.decreases-loop-line
decreases-loop-line l = length l.rest
