use Rattle.rt_buffer.proofs.Laid.{flat_try}
use Rattle.rt_buffer.proofs.write.Write.try_write_at.Goals as goal

pub returns-clause-flat : goal.returns-clause-flat
returns-clause-flat g c = λ content lies some went.
    flat_try c.args.self.now.held.tip c.merge.new.self c.args.bytes.now c.args.offset c.merge.result content lies went c.merge.ensures.within c.merge.ensures.merged
