use Rattle.rt_buffer.proofs.Prelude.{◌≡◌, Err, Ok, refl, rules, with_state, writer}
use Rattle.rt_base.specs.declared.poll.Poll.TheVariants as poll
use Rattle.rt_buffer.proofs.Steps.{waited}
use Rattle.rt_buffer.proofs.write.Write.wait.Goals as goal

pub returns-in-Pending-clause-waits : goal.returns-in-Pending-clause-waits
returns-in-Pending-clause-waits g c =
    let at = c.in-Pending.ensures in
    waited g.S.Storage c.args.task c.args.store.now c.poll_sync.new.self c.args.self.now.held _ c.poll_sync.new.ticket poll.Pending _ _ (g.E.Env.noted c.args.env.now) (g.E.Env.noted c.poll_sync.new.env)
    c.in-Started.is (at.gives.0, at.gives.1, (at.gives.2, at.durable, at.one, at.others)) at.ticket at.counts (refl, refl) at.ready

pub returns-in-Ready-Err-clause-waits : goal.returns-in-Ready-Err-clause-waits
returns-in-Ready-Err-clause-waits g c =
    let at = c.in-Ready-Err.ensures in
    waited g.S.Storage c.args.task c.args.store.now c.poll_sync.new.self c.args.self.now.held _ c.poll_sync.new.ticket (poll.Ready c.in-Ready-Err.field-0) _ _ (g.E.Env.noted c.args.env.now) (g.E.Env.noted c.poll_sync.new.env)
    c.in-Started.is (at.gives.0, at.gives.1, (at.gives.2, at.durable, at.one, at.others)) at.ticket at.counts (rw c.in-Ready-Err.field-0-is (refl, refl)) at.ready

pub returns-in-Ready-Ok-clause-waits : goal.returns-in-Ready-Ok-clause-waits
returns-in-Ready-Ok-clause-waits g c =
    let at = c.in-Ready-Ok.ensures in
    waited g.S.Storage c.args.task c.args.store.now c.poll_sync.new.self c.args.self.now.held _ c.poll_sync.new.ticket (poll.Ready c.in-Ready-Ok.field-0) _ _ (g.E.Env.noted c.args.env.now) (g.E.Env.noted c.poll_sync.new.env)
    c.in-Started.is (at.gives.0, at.gives.1, (at.gives.2, at.durable, at.one, at.others)) at.ticket at.counts (rw c.in-Ready-Ok.field-0-is (refl, rw (c.settle.ensures.store, c.settle.ensures.held) refl)) at.ready
