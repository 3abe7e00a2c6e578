use Rattle.rt_world.proofs.Drawing.{long-keeps}
use Rattle.rt_world.proofs.world.World.next_u64.Goals as goal

pub returns-clause-kept : goal.returns-clause-kept
returns-clause-kept g c =
    let w = c.self.inside in
    let called = c.next_u64.ensures in
    rw (← c.self.view_is) (long-keeps g.G.Rng.stream _ w.panic w.out w.rng c.next_u64.new.rng w.out w.machine c.next_u64.new.self c.next_u64.result called.ok called.err called.gave called.undrawn)
