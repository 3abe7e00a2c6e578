use Rattle.rt_core.proofs.Prelude.{refl, Ok, Err, childs, child_heard, child-tells, tells-lacking}
use Rattle.rt_core.proofs.context.Context.child.Goals as goal

pub returns-in_default-clause-steps : goal.returns-in_default-clause-steps
unfolding childs
returns-in_default-clause-steps g c = tells-lacking _ _ (child_heard c.args.self.now c.args.label.now) _ _ c.lack.ensures.state

pub returns-in-Ok-child-clause-steps : goal.returns-in-Ok-child-clause-steps
unfolding childs
returns-in-Ok-child-clause-steps g c =
    rw (← c.self.view_is)
    (child-tells c.args.world.now c.child.new.self _ (Ok c.on.result) c.self.inside.node c.args.label.now (Ok (c.in-Ok-child.node, c.in-Ok-child.field-0-1)) c.in-Ok-child.ensures.ok tt (rw (c.on.ensures, c.in-Ok.ensures) refl))

pub returns-in-Err-clause-steps : goal.returns-in-Err-clause-steps
unfolding childs
returns-in-Err-clause-steps g c =
    rw (← c.self.view_is)
    (child-tells c.args.world.now c.child.new.self _ (Err c.in-Err.error) c.self.inside.node c.args.label.now (Err c.in-Err.error) tt c.in-Err.ensures.err refl)
