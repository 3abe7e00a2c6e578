use Rattle.rt_buffer.proofs.Prelude.{refl, Counts}
use Rattle.rt_buffer.proofs.Holding.{counts_inner}
use Rattle.rt_buffer.proofs.delayed_sync.DelayedSyncContext.poll_inner.Goals as goal

pub returns-in-Ready-clause-counts : goal.returns-in-Ready-clause-counts
returns-in-Ready-clause-counts g c =
    let low = g.S.Storage.refusals c.args.self.now.inner in
    let mid = g.S.Storage.refusals c.poll_sync.new.self in
    let high = g.S.Storage.refusals c.answer.new.self.inner in
    let counted : Counts low mid c.in-Ready.held = rw c.in-Ready.is at c.poll_sync.ensures.counts in
    rw c.answer.ensures.answers.0 (counts_inner low mid high c.args.self.now.refusals c.answer.new.self.refusals c.in-Ready.held counted c.answer.ensures.counts c.answer.ensures.own)

pub returns-in-Numbered-clause-polls : goal.returns-in-Numbered-clause-polls
returns-in-Numbered-clause-polls g c =
    let at = c.poll_sync.ensures in
    (at.gives.0, at.gives.1, (c.poll_sync.result, c.poll_sync.new.self, c.poll_sync.new.ticket, (at.gives.2, at.durable, at.one, at.others), at.ticket, rw c.in-Numbered.is (refl, refl)))

pub returns-in-Ready-clause-polls : goal.returns-in-Ready-clause-polls
returns-in-Ready-clause-polls g c =
    let at = c.poll_sync.ensures in
    (at.gives.0, at.gives.1, (c.poll_sync.result, c.poll_sync.new.self, c.poll_sync.new.ticket, (at.gives.2, at.durable, at.one, at.others), at.ticket, rw c.in-Ready.is c.answer.ensures.answers))
