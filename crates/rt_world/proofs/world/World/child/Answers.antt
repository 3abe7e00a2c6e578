use Rattle.rt_world.proofs.Prelude.{refl}
use Rattle.rt_world.proofs.Calling.{child-calls}
use Rattle.rt_world.proofs.world.World.child.Goals as goal

pub returns-clause-called : goal.returns-clause-called
returns-clause-called g c =
    let w = c.self.inside in
    rw (← c.self.view_is) (child-calls w.machine c.child.new.self _ _ w.panic w.out w.rng c.args.node c.args.label.now c.child.result refl c.child.ensures.ok c.child.ensures.err)
