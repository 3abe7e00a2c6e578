use Rattle.rt_buffer.proofs.Seen.{seen_start}
use Rattle.rt_buffer.proofs.write_fault.WriteFaultContextStorage.start_sync.Goals as goal

pub returns-clause-durable : goal.returns-clause-durable
returns-clause-durable g c =
    seen_start (λ s. s.inner) (λ k. k.inner) g.S.Storage.bytes g.S.Storage.left g.S.Storage.promised c.args.self.now (record c.args.self.now { inner = c.start_sync.new.self }) c.args.blob.now c.start_sync.result c.start_sync.ensures.durable
