use Rattle.rt_buffer.proofs.Prelude.{rules, writer}
use Rattle.rt_buffer.proofs.Steps.{resizes_alone, resizes_written}
use Rattle.rt_buffer.proofs.write.Write.resize_tip.Goals as goal

pub returns-in-Ok-Some-clause-resizes : goal.returns-in-Ok-Some-clause-resizes
returns-in-Ok-Some-clause-resizes g c =
    resizes_written g.S.Storage c.args.self.now.blob c.args.len
    c.cut_tip.result c.in-Ok-Some.bufs c.in-Ok-Some.offset c.args.store.now c.args.self.now.held c.cut_tip.new.self.held
    c.write_and_resize.result (writer c.write_and_resize.new.store c.write_and_resize.new.self.held) (g.E.Env.noted c.args.env.now) (g.E.Env.noted c.write_and_resize.new.env)
    (search rules) c.cut_tip.ensures.buffers (search rules)
    (rw c.cut_tip.ensures.blob at c.write_and_resize.ensures.writes)

pub returns-in-Ok-None-clause-resizes : goal.returns-in-Ok-None-clause-resizes
returns-in-Ok-None-clause-resizes g c =
    resizes_alone g.S.Storage c.args.self.now.blob c.args.len
    c.cut_tip.result c.args.store.now c.args.self.now.held c.cut_tip.new.self.held
    c.resize_blob.result (writer c.resize_blob.new.store c.resize_blob.new.self.held) (g.E.Env.noted c.args.env.now) (g.E.Env.noted c.resize_blob.new.env)
    (search rules) c.cut_tip.ensures.buffers (search rules)
    (rw c.cut_tip.ensures.blob at c.resize_blob.ensures.resizes)
