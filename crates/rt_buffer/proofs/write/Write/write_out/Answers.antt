use Rattle.rt_buffer.proofs.Prelude.{rules}
use Rattle.rt_buffer.proofs.Steps.{out_now, out_gated}
use Rattle.rt_buffer.proofs.write.Write.write_out.Goals as goal

pub returns-in-Now-clause-writes : goal.returns-in-Now-clause-writes
returns-in-Now-clause-writes g c =
    let gives = c.write_at.ensures.gives in
    out_now g.S.Storage c.args.self.now.blob c.args.offset c.args.bufs c.args.store.now c.write_at.new.self
    c.args.self.now.held c.set_state.new.self c.default.result c.write_at.result c.in_ok-write_at.field-0 (g.E.Env.noted c.args.env.now) (g.E.Env.noted c.write_at.new.env)
    c.in_ok-write_at.was c.in-Now.is c.set_state.ensures (search rules) (gives.0, gives.1, (gives.2, c.write_at.ensures.durable, c.write_at.ensures.given_up, c.write_at.ensures.others)) c.write_at.ensures.counts

pub returns-in-Gated-clause-writes : goal.returns-in-Gated-clause-writes
returns-in-Gated-clause-writes g c =
    let gives = c.write_at.ensures.gives in
    out_gated g.S.Storage c.args.self.now.blob c.args.offset c.args.bufs c.args.store.now c.write_at.new.self c.give_up_sync.new.self
    c.args.self.now.held c.set_state.new.self c.default.result c.write_at.result c.in_ok-write_at.field-0 c.in-Gated.ticket (g.E.Env.noted c.args.env.now) (g.E.Env.noted c.write_at.new.env)
    c.in_ok-write_at.was c.in-Gated.is c.set_state.ensures (search rules) (gives.0, gives.1, (gives.2, c.write_at.ensures.durable, c.write_at.ensures.given_up, c.write_at.ensures.others)) c.write_at.ensures.counts (c.give_up_sync.ensures.gives, c.give_up_sync.ensures.one, c.give_up_sync.ensures.others)
