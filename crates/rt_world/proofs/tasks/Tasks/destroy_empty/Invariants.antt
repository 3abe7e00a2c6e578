use Rattle.rt_world.proofs.Prelude.{◌≡◌, [], length, seats_from}
use Rattle.rt_world.proofs.tasks.Tasks.destroy_empty.Given as goal

abbrev pub invariant-loop-place : goal.invariant-loop-place
invariant-loop-place g l = seats_from l.fn.self.first l.places.items ≡ []

abbrev pub decreases-loop-place : goal.decreases-loop-place
decreases-loop-place g l = length l.places.items
