use Rattle.rt_world.proofs.Calling.{abort-seated}
use Rattle.rt_world.proofs.Slotted.{abort-slotted}
use Rattle.rt_world.proofs.world.World.abort.Goals as goal

pub invariant_of-self : goal.invariant_of-self
invariant_of-self g c =
    let w = c.self.inside in
    (abort-seated w.tasks w.outputs w.out w.out w.machine c.abort.new.self c.self.invariant.0 c.args.task c.abort.ensures, abort-slotted w.sent w.out w.machine c.abort.new.self c.self.invariant.1 c.args.task c.abort.ensures)
