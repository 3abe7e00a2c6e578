use Rattle.rt_world.proofs.Follows.{follows-crashed}
use Rattle.rt_world.proofs.world.World.seal.Goals as goal

pub returns-clause-agrees : goal.returns-clause-agrees
returns-clause-agrees g c p whole output f =
    c.finish.ensures.agrees p whole output (rw c.crash.ensures (follows-crashed p c.args.self.now.told _ output _ whole c.requires.closing.turns f))
