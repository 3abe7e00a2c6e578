use Rattle.rt_buffer.proofs.Prelude.{rules, Drains, PutsAgain, writer}
use Rattle.rt_buffer.proofs.Steps.{then_done}
use Rattle.rt_buffer.proofs.write.Write.drain_and_put.Goals as goal

pub returns-in-Ok-Ready-clause-puts : goal.returns-in-Ok-Ready-clause-puts
returns-in-Ok-Ready-clause-puts g c =
    then_done (Drains g.S.Storage c.args.self.now.blob) (PutsAgain g.S.Storage c.args.self.now.blob c.args.at c.args.chunk)
    (writer c.args.store.now c.args.self.now.held) (writer c.drain.new.store c.drain.new.self.held) (writer c.put_again.new.store c.put_again.new.self.held) c.drain.result c.put_again.result (g.E.Env.noted c.args.env.now) (g.E.Env.noted c.drain.new.env) (g.E.Env.noted c.put_again.new.env)
    (search rules) c.drain.ensures.drains (rw c.drain.ensures.blob at c.put_again.ensures.puts)
