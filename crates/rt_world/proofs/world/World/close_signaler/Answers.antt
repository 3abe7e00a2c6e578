use Rattle.rt_world.proofs.Signaled.{signaler-close-keeps}
use Rattle.rt_world.proofs.world.World.close_signaler.Goals as goal

pub returns-clause-kept : goal.returns-clause-kept
returns-clause-kept g c =
    rw (← c.self.view_is) (signaler-close-keeps _ _ _ _ _ c.self.inside.out c.self.inside.machine c.close_signaler.new.self c.args.signaler c.close_signaler.ensures)
