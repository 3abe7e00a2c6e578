use Rattle.rt_world.proofs.Prelude.{◌∙◌, ap, Seen, after}
use Rattle.rt_world.proofs.Blocks.{top-task}
use Rattle.rt_world.proofs.Ending.{root-seated}
use Rattle.rt_world.proofs.world.World.answer_root.Goals as goal

pub invariant_of-self : goal.invariant_of-self
unfolding after
invariant_of-self g c =
    let w = c.self.inside in
    let out = rw (← c.self.view_is) at c.requires.out in
    let top = top-task c.args.task c.args.block.items w.tasks.items c.requires.one in
    rw (ap (λ (m : Seen). m.told.state) c.answer.ensures)
    (root-seated w.tasks c.put.new.self w.outputs c.args.task w.machine.told.state top.0 (rw out at c.self.invariant.0) (rw (← c.self.view_is) at c.requires.root) (c.put.ensures.items ∙ top.1) c.put.ensures.first c.put.ensures.next, c.self.invariant.1)
