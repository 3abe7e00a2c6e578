use Rattle.rt_world.proofs.Places.{empty-front, empty-last}
use Rattle.rt_world.proofs.tasks.Tasks.destroy_empty.Goals as goal

pub loop-place-preserved : goal.loop-place-preserved
loop-place-preserved g c =
    empty-front c.args.self.first c.pop.new.self.items c.in-Some.place (rw c.in-Some.ensures.items at c.loop-place.invariant)

pub unreachable-requires : goal.unreachable-requires
unreachable-requires g c =
    empty-last c.args.self.first c.pop.new.self.items c.in-Some-place.field-0 (rw (c.in-Some.ensures.items, c.in-Some-place.is) at c.loop-place.invariant)
