use Rattle.rt_buffer.proofs.Prelude.{IsSync}
use Rattle.rt_buffer.proofs.Steps.{settled_behind}
use Rattle.rt_buffer.proofs.write.Write.sync_blob.Goals as goal

pub returns-clause-syncs : goal.returns-clause-syncs
returns-clause-syncs g c =
    let gives = c.sync.ensures.gives in
    settled_behind g.S.Storage c.args.task (IsSync g.S.Storage c.args.store.now c.args.self.now.blob) c.sync.result c.in_ok-done.done c.args.store.now c.sync.new.self
    c.args.self.now.held c.keep.result _ (g.E.Env.noted c.args.env.now) (g.E.Env.noted c.sync.new.env) (g.E.Env.noted c.keep.new.env)
    c.in_ok-done.was (gives.0, gives.1, (gives.2, c.sync.ensures.durable, c.sync.ensures.others)) c.sync.ensures.counts c.keep.ensures.settles
