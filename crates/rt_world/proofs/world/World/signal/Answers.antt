use Rattle.rt_world.proofs.Signaled.{signal-keeps}
use Rattle.rt_world.proofs.world.World.signal.Goals as goal

pub returns-clause-kept : goal.returns-clause-kept
returns-clause-kept g c =
    rw (← c.self.view_is) (signal-keeps _ _ _ _ _ c.self.inside.out c.self.inside.machine c.signal.new.self c.args.signaler _ c.signal.ensures)
