use Rattle.rt_world.proofs.Prelude.{◌∙◌, ap, sym, refl, after, Seen}
use Rattle.rt_world.proofs.Blocks.{top-task}
use Rattle.rt_world.proofs.Ending.{kept-seated, dropped-seated}
use Rattle.rt_world.proofs.world.World.answer_result.Goals as goal

pub invariant_of-self : goal.invariant_of-self
unfolding after
invariant_of-self g c =
    let w = c.self.inside in
    let out = rw (← c.self.view_is) at c.requires.out in
    let top = top-task c.args.task c.args.block.items w.tasks.items c.requires.one in
    rw (ap (λ (m : Seen). m.told.state) c.answer.ensures)
    (kept-seated w.tasks c.put.new.self w.outputs c.replace.new.self c.args.task w.machine.told.state top.0 c.args.output (rw out at c.self.invariant.0) (rw (← c.self.view_is) at c.requires.spawned) (c.put.ensures.items ∙ top.1) c.put.ensures.first c.put.ensures.next c.replace.ensures.first c.replace.ensures.next c.replace.ensures.items, c.self.invariant.1)

pub invariant_of-self-else-has_result : goal.invariant_of-self-else-has_result
unfolding after
invariant_of-self-else-has_result g c =
    let w = c.self.inside in
    let out = rw (← c.self.view_is) at c.requires.out in
    let top = top-task c.args.task c.args.block.items w.tasks.items c.requires.one in
    rw (ap (λ (m : Seen). m.told.state) c.answer.ensures)
    (dropped-seated w.tasks c.put.new.self w.outputs w.outputs c.args.task w.machine.told.state top.0 c.args.output (rw out at c.self.invariant.0) (rw (← c.self.view_is) at c.requires.spawned) (c.put.ensures.items ∙ top.1) c.put.ensures.first c.put.ensures.next refl refl refl (rw c.answer.ensures at (sym c.has_result.ensures ∙ c.if-has_result.false)), c.self.invariant.1)
