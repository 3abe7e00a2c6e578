use Rattle.rt_buffer.proofs.Prelude.{rules, refl, ◌+◌, writer}
use Rattle.rt_buffer.proofs.Steps.{lacks_buffer, writes_buffer}
use Rattle.rt_buffer.proofs.write.Write.write_chunk.Goals as goal

pub returns-in_err-bufs-clause-writes : goal.returns-in_err-bufs-clause-writes
returns-in_err-bufs-clause-writes g c = lacks_buffer g.S.Storage c.args.self.now.blob c.args.at c.args.chunk (writer c.args.store.now c.args.self.now.held) _ (g.E.Env.noted c.args.env.now) (search rules)

pub returns-in-Err-clause-writes : goal.returns-in-Err-clause-writes
returns-in-Err-clause-writes g c =
    writes_buffer g.S.Storage c.args.self.now.blob c.args.at _ c.args.chunk c.in_ok-bufs.bufs (writer c.args.store.now c.args.self.now.held) (writer c.write_out.new.store c.write_out.new.self.held) _ c.write_out.result _ (g.E.Env.noted c.args.env.now) (g.E.Env.noted c.write_out.new.env)
    c.in_ok-bufs.ensures.bytes refl (search rules) c.write_out.ensures.writes refl

pub returns-in-Ok-Ready-clause-writes : goal.returns-in-Ok-Ready-clause-writes
returns-in-Ok-Ready-clause-writes g c =
    writes_buffer g.S.Storage c.args.self.now.blob c.args.at (c.args.at + c.len.result) c.args.chunk c.in_ok-bufs.bufs (writer c.args.store.now c.args.self.now.held) (writer c.write_out.new.store c.write_out.new.self.held) _ c.write_out.result _ (g.E.Env.noted c.args.env.now) (g.E.Env.noted c.write_out.new.env)
    c.in_ok-bufs.ensures.bytes (rw c.len.ensures.value refl) (search rules) c.write_out.ensures.writes (rw c.raise.ensures refl)
