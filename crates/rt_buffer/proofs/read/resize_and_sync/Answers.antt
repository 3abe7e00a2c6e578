use Rattle.rt_buffer.proofs.Noting.{synced_behind}
use Rattle.rt_buffer.proofs.read.resize_and_sync.Goals as goal

pub returns-clause-gives : goal.returns-clause-gives
returns-clause-gives g c =
    synced_behind g.S.Storage.resizes g.S.Storage.syncs c.args.blob.now c.args.len c.args.store.now c.resize.new.self c.sync.new.self c.resize.result _ c.sync.result
    (g.E.Env.noted c.args.env.now) (g.E.Env.noted c.resize.new.env) (g.E.Env.noted c.sync.new.env) c.in_ok-resize.was c.resize.ensures.gives c.sync.ensures.gives
