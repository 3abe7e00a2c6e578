use Rattle.rt_buffer.proofs.Prelude.{ap}
use Rattle.rt_buffer.proofs.Mocks.{rises}
use Rattle.rt_buffer.proofs.Seen.{seen_start}
use Rattle.rt_buffer.proofs.sync_fault.SyncFaultContextStorage.start_sync.Goals as goal

pub returns-then-blob-clause-counts : goal.returns-then-blob-clause-counts
returns-then-blob-clause-counts g c =
    rw c.refuse.ensures.error (rises (g.S.Storage.refusals c.args.self.now.inner) (g.S.Storage.refusals c.refuse.new.self.inner) c.args.self.now.refusals c.refuse.new.self.refusals
    (ap g.S.Storage.refusals c.refuse.ensures.inner) c.refuse.ensures.counted c.refuse.ensures.fits)

pub returns-clause-durable : goal.returns-clause-durable
returns-clause-durable g c =
    seen_start (λ s. s.inner) (λ k. k.inner) g.S.Storage.bytes g.S.Storage.left g.S.Storage.promised c.args.self.now (record c.args.self.now { inner = c.start_sync.new.self }) c.args.blob.now c.start_sync.result c.start_sync.ensures.durable
