use Rattle.rt_buffer.proofs.Prelude.{rules, Ok, Err, is_done, writer}
use Rattle.rt_base.specs.declared.poll.Poll.TheVariants as poll
use Rattle.rt_buffer.proofs.Durable.{handle_asked}
use Rattle.rt_buffer.proofs.Framed.{waited}
use Rattle.rt_buffer.proofs.sync_handle.SyncHandle.poll.Goals as goal

pub returns-in-Ok-Ready-clause-durable : goal.returns-in-Ok-Ready-clause-durable
returns-in-Ok-Ready-clause-durable g c = λ number holds.
    handle_asked g.S.Storage c.args.write.now.blob c.args.task
    (writer c.args.store.now c.args.write.now.held) c.wait.result is_done (writer c.wait.new.store c.wait.new.self.held) (g.E.Env.noted c.args.env.now) (g.E.Env.noted c.wait.new.env) (search rules) holds c.wait.ensures.waits

pub returns-in-Ok-Pending-clause-durable : goal.returns-in-Ok-Pending-clause-durable
returns-in-Ok-Pending-clause-durable g c = λ number holds.
    handle_asked g.S.Storage c.args.write.now.blob c.args.task
    (writer c.args.store.now c.args.write.now.held) c.wait.result (Ok poll.Pending) (writer c.wait.new.store c.wait.new.self.held) (g.E.Env.noted c.args.env.now) (g.E.Env.noted c.wait.new.env) (search rules) holds c.wait.ensures.waits

pub returns-in-Err-clause-durable : goal.returns-in-Err-clause-durable
returns-in-Err-clause-durable g c = λ number holds.
    handle_asked g.S.Storage c.args.write.now.blob c.args.task
    (writer c.args.store.now c.args.write.now.held) c.wait.result (Err c.in-Err.error) (writer c.wait.new.store c.wait.new.self.held) (g.E.Env.noted c.args.env.now) (g.E.Env.noted c.wait.new.env) (search rules) holds c.wait.ensures.waits

pub returns-in-Ok-Ready-clause-others : goal.returns-in-Ok-Ready-clause-others
returns-in-Ok-Ready-clause-others g c = λ knows.
    let ran = c.wait.ensures.waits in
    waited g.S.Storage c.args.write.now.blob c.args.task (writer c.args.store.now c.args.write.now.held) c.wait.result (writer c.wait.new.store c.wait.new.self.held) ran.0 knows ran.2

pub returns-in-Ok-Pending-clause-others : goal.returns-in-Ok-Pending-clause-others
returns-in-Ok-Pending-clause-others g c = λ knows.
    let ran = c.wait.ensures.waits in
    waited g.S.Storage c.args.write.now.blob c.args.task (writer c.args.store.now c.args.write.now.held) c.wait.result (writer c.wait.new.store c.wait.new.self.held) ran.0 knows ran.2

pub returns-in-Err-clause-others : goal.returns-in-Err-clause-others
returns-in-Err-clause-others g c = λ knows.
    let ran = c.wait.ensures.waits in
    waited g.S.Storage c.args.write.now.blob c.args.task (writer c.args.store.now c.args.write.now.held) c.wait.result (writer c.wait.new.store c.wait.new.self.held) ran.0 knows ran.2
