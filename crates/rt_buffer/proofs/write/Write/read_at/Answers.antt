use Rattle.rt_buffer.proofs.Prelude.{rules}
use Rattle.rt_buffer.proofs.Laid.{flat_tip, flat_reads}
use Rattle.rt_buffer.proofs.write.Write.read_at.Goals as goal

pub returns-in-None-clause-flat : goal.returns-in-None-clause-flat
returns-in-None-clause-flat g c = λ lies.
    flat_tip c.args.self.now.held.tip c.args.offset c.args.len c.read_tip.result (g.S.Storage.bytes c.args.store.now c.args.self.now.blob) lies (search rules) c.read_tip.ensures

pub returns-in-Some-2-clause-flat : goal.returns-in-Some-2-clause-flat
returns-in-Some-2-clause-flat g c = λ lies.
    let reads = c.read_through.ensures.reads in
    flat_reads g.S.Storage c.args.self.now.blob c.args.self.now.held.tip c.args.offset c.args.len
    c.args.store.now c.read_through.new.store c.read_through.result reads.0 lies (search rules) reads.2
