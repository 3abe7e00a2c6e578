use Rattle.rt_buffer.proofs.Prelude.{rules, writer}
use Rattle.rt_buffer.proofs.Steps.{drains_written}
use Rattle.rt_buffer.proofs.write.Write.drain.Goals as goal

pub returns-in-Ok-Some-clause-drains : goal.returns-in-Ok-Some-clause-drains
returns-in-Ok-Some-clause-drains g c =
    drains_written g.S.Storage c.args.self.now.blob
    c.take_tip.result c.in-Ok-Some.bufs c.in-Ok-Some.offset c.args.store.now c.args.self.now.held c.take_tip.new.self.held
    c.write_out.result (writer c.write_out.new.store c.write_out.new.self.held) (g.E.Env.noted c.args.env.now) (g.E.Env.noted c.write_out.new.env)
    (search rules) c.take_tip.ensures.buffers (search rules)
    (rw c.take_tip.ensures.blob at c.write_out.ensures.writes)
