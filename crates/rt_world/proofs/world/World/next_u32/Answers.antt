use Rattle.rt_world.proofs.Drawing.{short-keeps}
use Rattle.rt_world.proofs.world.World.next_u32.Goals as goal

pub returns-clause-kept : goal.returns-clause-kept
returns-clause-kept g c =
    let w = c.self.inside in
    let called = c.next_u32.ensures in
    rw (← c.self.view_is) (short-keeps g.G.Rng.stream _ w.panic w.out w.rng c.next_u32.new.rng w.out w.machine c.next_u32.new.self c.next_u32.result called.ok called.err called.gave called.undrawn)
