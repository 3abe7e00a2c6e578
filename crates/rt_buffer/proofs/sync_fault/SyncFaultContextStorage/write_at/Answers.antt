use Rattle.rt_buffer.proofs.Seen.{seen_write}
use Rattle.rt_buffer.proofs.sync_fault.SyncFaultContextStorage.write_at.Goals as goal

pub returns-clause-durable : goal.returns-clause-durable
returns-clause-durable g c =
    seen_write (λ s. s.inner) (λ k. k.inner) g.S.Storage.bytes g.S.Storage.left g.S.Storage.promised c.args.self.now (record c.args.self.now { inner = c.write_at.new.self }) c.args.blob.now c.args.offset c.args.bufs c.args.options c.write_at.result c.write_at.ensures.durable
