use Rattle.rt_net.proofs.Prelude.{with_lost}
use Rattle.rt_net.proofs.forgotten.Forgotten.lose.Given as goal

abbrev pub ghost-set : goal.ghost-set
ghost-set a = with_lost a.self.now.past a.bytes.now a.count
