use Rattle.rt_world.proofs.Follows.{agrees-root}
use Rattle.rt_world.proofs.world.World.register_root.Goals as goal

pub returns-in-Ok-clause-agrees : goal.returns-in-Ok-clause-agrees
returns-in-Ok-clause-agrees g c p calm m = agrees-root p _ _ c.in-Ok.task c.args.root calm c.in-Ok.ensures.ok m
