use Rattle.rt_buffer.proofs.Flat.{stands_after_seek}
use Rattle.rt_buffer.proofs.read.Read.seek_to.Goals as goal

pub returns-clause-flat : goal.returns-clause-flat
returns-clause-flat g c = λ bytes s.
    stands_after_seek c.args.self.now.ahead c.seek.new.self c.args.position c.seek.result _ bytes c.seek.ensures.sought c.seek.ensures.refused s
