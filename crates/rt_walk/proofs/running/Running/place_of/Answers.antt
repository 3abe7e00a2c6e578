use Rattle.rt_walk.proofs.Prelude.{◌<◌, ◌≤◌, arith}
use Rattle.rt_walk.proofs.Rising.{behind-read}
use Rattle.rt_walk.proofs.running.Running.place_of.Goals as goal

pub returns-else-task-index-clause-low : goal.returns-else-task-index-clause-low
returns-else-task-index-clause-low c =
    let some : 0 < c.loop-place.place = grind (arith, c.loop-place-test.true) in
    let low : c.index.result.now ≤ c.args.task = grind (arith, c.if-task-index.false) in
    rw (← c.self.view_is) (behind-read c.args.task c.loop-place.place c.index.result.now c.self.inside.numbers.items c.self.invariant some c.loop-place.invariant.within c.index.ensures low)
