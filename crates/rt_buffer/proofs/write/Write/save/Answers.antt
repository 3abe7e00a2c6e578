use Rattle.rt_buffer.proofs.Prelude.{rules, writer}
use Rattle.rt_buffer.proofs.Steps.{saves_all, saves_durably, saves_written}
use Rattle.rt_buffer.proofs.write.Write.save.Goals as goal

pub returns-in-Ok-Some-clause-saves : goal.returns-in-Ok-Some-clause-saves
returns-in-Ok-Some-clause-saves g c =
    saves_durably g.S.Storage c.args.self.now.blob c.args.task
    c.take_tip-taken.result c.in-Ok-Some.bufs c.in-Ok-Some.offset c.args.store.now c.args.self.now.held c.take_tip-taken.new.self.held
    c.write_durably.result (writer c.write_durably.new.store c.write_durably.new.self.held) (g.E.Env.noted c.args.env.now) (g.E.Env.noted c.write_durably.new.env)
    (search rules) c.take_tip-taken.ensures.buffers (search rules) (search rules)
    (rw c.take_tip-taken.ensures.blob at c.write_durably.ensures.writes)

pub returns-in-Ok-Some-2-clause-saves : goal.returns-in-Ok-Some-2-clause-saves
returns-in-Ok-Some-2-clause-saves g c =
    saves_written g.S.Storage c.args.self.now.blob c.args.task
    c.take_tip-taken.result c.in-Ok-Some.bufs c.in-Ok-Some.offset c.args.store.now c.args.self.now.held c.take_tip-taken.new.self.held
    c.write_and_sync.result (writer c.write_and_sync.new.store c.write_and_sync.new.self.held) (g.E.Env.noted c.args.env.now) (g.E.Env.noted c.write_and_sync.new.env)
    (search rules) c.take_tip-taken.ensures.buffers (search rules) (search rules)
    (rw c.take_tip-taken.ensures.blob at c.write_and_sync.ensures.writes)

pub returns-in-Ok-None-2-clause-saves : goal.returns-in-Ok-None-2-clause-saves
returns-in-Ok-None-2-clause-saves g c =
    saves_all g.S.Storage c.args.self.now.blob c.args.task
    c.take_tip-taken.result c.args.store.now c.args.self.now.held c.take_tip-taken.new.self.held
    c.sync_blob.result (writer c.sync_blob.new.store c.sync_blob.new.self.held) (g.E.Env.noted c.args.env.now) (g.E.Env.noted c.sync_blob.new.env)
    (search rules) c.take_tip-taken.ensures.buffers (search rules) (search rules)
    (rw c.take_tip-taken.ensures.blob at c.sync_blob.ensures.syncs)
