use Rattle.rt_buffer.proofs.Prelude.{rules, Begins, Drains, writer}
use Rattle.rt_buffer.proofs.Steps.{then_done}
use Rattle.rt_buffer.proofs.write.Write.drain_and_begin.Goals as goal

pub returns-in-Ok-Ready-clause-begins : goal.returns-in-Ok-Ready-clause-begins
returns-in-Ok-Ready-clause-begins g c =
    then_done (Drains g.S.Storage c.args.self.now.blob) (Begins g.S.Storage c.args.self.now.blob)
    (writer c.args.store.now c.args.self.now.held) (writer c.drain.new.store c.drain.new.self.held) (writer c.begin.new.store c.begin.new.self.held) c.drain.result c.begin.result (g.E.Env.noted c.args.env.now) (g.E.Env.noted c.drain.new.env) (g.E.Env.noted c.begin.new.env)
    (search rules) c.drain.ensures.drains (rw c.drain.ensures.blob at c.begin.ensures.begins)
