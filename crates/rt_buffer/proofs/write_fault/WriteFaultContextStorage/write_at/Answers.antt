use Rattle.rt_buffer.proofs.Prelude.{ap, refl, WriteFaults}
use Rattle.rt_buffer.proofs.Mocks.{rises}
use Rattle.rt_buffer.proofs.Seen.{seen_write}
use Rattle.rt_buffer.proofs.write_fault.WriteFaultContextStorage.write_at.Goals as goal

pub returns-then-self-clause-counts : goal.returns-then-self-clause-counts
returns-then-self-clause-counts g c =
    rises (g.S.Storage.refusals c.args.self.now.inner) _ c.args.self.now.faults.refusals c.refuse.new.self.refusals refl
    (ap (λ (f : WriteFaults). f.refusals) c.refuse.ensures.counted) c.refuse.ensures.fits

pub returns-clause-durable : goal.returns-clause-durable
returns-clause-durable g c =
    seen_write (λ s. s.inner) (λ k. k.inner) g.S.Storage.bytes g.S.Storage.left g.S.Storage.promised c.args.self.now (record c.args.self.now { inner = c.write_at-answer.new.self; faults = c.count.new.self }) c.args.blob.now c.args.offset c.args.bufs c.args.options c.write_at-answer.result c.write_at-answer.ensures.durable
