use Rattle.rt_buffer.proofs.Prelude.{◌+◌}
use Rattle.rt_buffer.proofs.Mocks.{counts_done_more}
use Rattle.rt_buffer.proofs.delayed_sync.DelayedSyncContext.sync_open.Goals as goal

pub returns-clause-counts : goal.returns-clause-counts
returns-clause-counts g c =
    let s = g.S.Storage in
    let own = c.args.self.now.refusals in
    let old = s.refusals c.args.self.now.inner in
    let new = s.refusals c.sync-answer.new.self in
    c.pass_on.ensures.counts (old + own) (new + own) (counts_done_more old new own c.sync-answer.result c.sync-answer.ensures.counts)
