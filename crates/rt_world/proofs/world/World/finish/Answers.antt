use Rattle.rt_world.proofs.Prelude.{refl}
use Rattle.rt_world.proofs.Follows.{follows-finished}
use Rattle.rt_world.proofs.world.World.finish.Goals as goal

pub returns-clause-agrees : goal.returns-clause-agrees
returns-clause-agrees g c p whole output f =
    follows-finished p c.self.inside.machine.told c.finish.new.self.told _ c.args.cause (rw c.finish.ensures refl) (rw (← c.self.view_is) at f)
