use Rattle.rt_buffer.proofs.Prelude.{rules, ResizesBlob, WritesOut, writer}
use Rattle.rt_buffer.proofs.Steps.{then_done}
use Rattle.rt_buffer.proofs.write.Write.write_and_resize.Goals as goal

pub returns-in-Ok-Ready-clause-writes : goal.returns-in-Ok-Ready-clause-writes
returns-in-Ok-Ready-clause-writes g c =
    then_done (WritesOut g.S.Storage c.args.self.now.blob c.args.offset c.args.bufs) (ResizesBlob g.S.Storage c.args.self.now.blob c.args.len)
    (writer c.args.store.now c.args.self.now.held) (writer c.write_out.new.store c.write_out.new.self.held) (writer c.resize_blob.new.store c.resize_blob.new.self.held) c.write_out.result c.resize_blob.result (g.E.Env.noted c.args.env.now) (g.E.Env.noted c.write_out.new.env) (g.E.Env.noted c.resize_blob.new.env)
    (search rules) c.write_out.ensures.writes (rw c.write_out.ensures.blob at c.resize_blob.ensures.resizes)
