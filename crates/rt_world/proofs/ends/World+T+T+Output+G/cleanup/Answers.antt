use Rattle.rt_world.proofs.Drawn.{seals-sealed}
use Rattle.rt_world.proofs.ends.World+T+T+Output+G.cleanup.Goals as goal

pub returns-then-lacked-clause-seals : goal.returns-then-lacked-clause-seals
returns-then-lacked-clause-seals g c =
    let closed = c.close.ensures in
    seals-sealed g.G.Rng.stream c.args.self.now c.close.new.self c.end_all-lacked.new.self closed.begin closed.given closed.front closed.drawn closed.clock closed.rng c.end_all-lacked.ensures.ends c.end_all-lacked.ensures.writes c.seal.new.self _ c.end_all-lacked.ensures.none.1 c.seal.ensures.rest

pub returns-clause-seals : goal.returns-clause-seals
returns-clause-seals g c =
    let closed = c.close.ensures in
    seals-sealed g.G.Rng.stream c.args.self.now c.close.new.self c.end_all-lacked.new.self closed.begin closed.given closed.front closed.drawn closed.clock closed.rng c.end_all-lacked.ensures.ends c.end_all-lacked.ensures.writes c.seal-2.new.self _ c.end_all-lacked.ensures.none.1 c.seal-2.ensures.rest
