use Rattle.rt_world.proofs.Drawing.{filled-keeps}
use Rattle.rt_world.proofs.world.World.fill_bytes.Goals as goal

pub returns-clause-kept : goal.returns-clause-kept
returns-clause-kept g c =
    let w = c.self.inside in
    let called = c.fill_bytes.ensures in
    rw (← c.self.view_is) (filled-keeps g.G.Rng.stream _ w.panic w.out w.rng c.fill_bytes.new.rng w.out w.machine c.fill_bytes.new.self _ _ c.fill_bytes.result called.ok called.err called.gave called.undrawn)
