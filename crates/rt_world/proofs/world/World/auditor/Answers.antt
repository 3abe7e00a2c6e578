use Rattle.rt_world.proofs.Prelude.{refl}
use Rattle.rt_world.proofs.Drawing.{auditor-keeps}
use Rattle.rt_world.proofs.world.World.auditor.Goals as goal

pub returns-clause-kept : goal.returns-clause-kept
returns-clause-kept g c =
    let w = c.self.inside in
    rw (← c.self.view_is) (auditor-keeps g.G.Rng.stream _ w.panic w.out w.rng w.rng w.out w.machine c.auditor.new.self c.auditor.result refl c.auditor.ensures.ok c.auditor.ensures.err)
