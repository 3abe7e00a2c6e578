use Rattle.rt_buffer.proofs.Prelude.{rules, writer}
use Rattle.rt_buffer.proofs.Steps.{puts_behind, puts_there}
use Rattle.rt_buffer.proofs.write.Write.put.Goals as goal

pub returns-in-Ok-false-clause-puts : goal.returns-in-Ok-false-clause-puts
returns-in-Ok-false-clause-puts g c =
    puts_behind g.S.Storage c.args.self.now.blob c.merge.new.self.blob c.args.at c.args.chunk c.args.store.now c.args.self.now.held c.merge.new.self.held (writer c.drain_and_put.new.store c.drain_and_put.new.self.held) c.drain_and_put.result (g.E.Env.noted c.args.env.now) (g.E.Env.noted c.drain_and_put.new.env)
    c.merge.ensures.blob (c.merge.ensures.beyond (search rules)) (search rules) (search rules) c.drain_and_put.ensures.puts

pub returns-in-Ok-false-2-clause-puts : goal.returns-in-Ok-false-2-clause-puts
returns-in-Ok-false-2-clause-puts g c =
    puts_there g.S.Storage c.args.self.now.blob c.merge.new.self.blob c.args.at c.args.chunk c.args.store.now c.args.self.now.held c.merge.new.self.held (writer c.write_chunk.new.store c.write_chunk.new.self.held) c.write_chunk.result (g.E.Env.noted c.args.env.now) (g.E.Env.noted c.write_chunk.new.env)
    c.merge.ensures.blob (c.merge.ensures.beyond (search rules)) (search rules) (search rules) c.write_chunk.ensures.writes
