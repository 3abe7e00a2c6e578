use Rattle.rt_buffer.proofs.Seen.{seen_sync}
use Rattle.rt_buffer.proofs.write_fault.WriteFaultContextStorage.sync.Goals as goal

pub returns-clause-durable : goal.returns-clause-durable
returns-clause-durable g c =
    seen_sync (λ s. s.inner) (λ k. k.inner) g.S.Storage.bytes g.S.Storage.left g.S.Storage.promised c.args.self.now (record c.args.self.now { inner = c.sync.new.self }) c.args.blob.now c.sync.result c.sync.ensures.durable
