use Rattle.rt_store.proofs.Prelude.{rules}
use Rattle.rt_store.proofs.Drawn.{cuts}
use Rattle.rt_store.proofs.crash.choose_write.Goals as goal

pub returns-else-draw-config-clause-gives : goal.returns-else-draw-config-clause-gives
returns-else-draw-config-clause-gives g c =
    rw c.in-Prefix.is (cuts (g.E.Env.noted c.args.env.now) (g.E.Env.noted c.draw.new.self) (g.E.Env.noted c.draw-in-Prefix.new.self) c.args.config.now.keep c.args.len c.draw.result c.draw-in-Prefix.result
    c.draw.ensures.noted c.draw-in-Prefix.ensures.noted (search rules))
