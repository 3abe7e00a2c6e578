use Rattle.rt_buffer.proofs.Prelude.{IsWrite, durably}
use Rattle.rt_buffer.proofs.Steps.{settled_behind}
use Rattle.rt_buffer.proofs.write.Write.write_durably.Goals as goal

pub returns-clause-writes : goal.returns-clause-writes
returns-clause-writes g c =
    let gives = c.write_at.ensures.gives in
    settled_behind g.S.Storage c.args.task (IsWrite g.S.Storage c.args.store.now c.args.self.now.blob c.args.offset c.args.bufs durably) c.write_at.result c.in_ok-done.done c.args.store.now c.write_at.new.self
    c.args.self.now.held c.keep.result _ (g.E.Env.noted c.args.env.now) (g.E.Env.noted c.write_at.new.env) (g.E.Env.noted c.keep.new.env)
    c.in_ok-done.was (gives.0, gives.1, (gives.2, c.write_at.ensures.durable, c.write_at.ensures.given_up, c.write_at.ensures.others)) c.write_at.ensures.counts c.keep.ensures.settles
