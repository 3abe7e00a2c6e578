use Rattle.rt_scenario.proofs.Prelude.{◌≡◌, ◌+◌, ◌<◌, ◌^◌, length, tasks_at, capped}
use Rattle.rt_scenario.proofs.tasks.tasks_at.Given as goal

abbrev pub invariant-loop-place : goal.invariant-loop-place
invariant-loop-place l = (capped (l.total + tasks_at l.fn.tasks l.rest) ≡ capped (tasks_at l.fn.tasks l.fn.places)) × (l.total < 2 ^ 64)

abbrev pub decreases-loop-place : goal.decreases-loop-place
decreases-loop-place l = length l.rest
