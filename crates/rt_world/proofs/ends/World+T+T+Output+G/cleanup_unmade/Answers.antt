use Rattle.rt_world.proofs.Drawn.{seals-sealed, seals-unmade}
use Rattle.rt_world.proofs.ends.World+T+T+Output+G.cleanup_unmade.Goals as goal

pub returns-in_default-clause-seals : goal.returns-in_default-clause-seals
returns-in_default-clause-seals g c =
    let closed = c.close.ensures in
    seals-sealed g.G.Rng.stream c.args.self.now c.close.new.self c.end_all-lacked.new.self closed.begin closed.given closed.front closed.drawn closed.clock closed.rng c.end_all-lacked.ensures.ends c.end_all-lacked.ensures.writes c.seal.new.self _ c.end_all-lacked.ensures.none.1 c.seal.ensures.rest

pub returns-then-lacked-clause-seals : goal.returns-then-lacked-clause-seals
returns-then-lacked-clause-seals g c =
    let closed = c.close.ensures in
    seals-unmade g.G.Rng.stream c.args.self.now c.close.new.self c.end_all-lacked.new.self closed.begin closed.given closed.front closed.drawn closed.clock closed.rng c.end_all-lacked.ensures.ends c.end_all-lacked.ensures.writes c.crash_unmade-lacked_too.new.self c.finish.new.self _ c.crash_unmade-lacked_too.ensures.seals c.finish.ensures.rest

pub returns-clause-seals : goal.returns-clause-seals
returns-clause-seals g c =
    let closed = c.close.ensures in
    seals-unmade g.G.Rng.stream c.args.self.now c.close.new.self c.end_all-lacked.new.self closed.begin closed.given closed.front closed.drawn closed.clock closed.rng c.end_all-lacked.ensures.ends c.end_all-lacked.ensures.writes c.crash_unmade-lacked_too.new.self c.finish-2.new.self _ c.crash_unmade-lacked_too.ensures.seals c.finish-2.ensures.rest
