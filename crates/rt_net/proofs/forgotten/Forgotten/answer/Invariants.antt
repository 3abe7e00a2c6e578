use Rattle.rt_net.proofs.Prelude.{with_answered}
use Rattle.rt_net.proofs.forgotten.Forgotten.answer.Given as goal

abbrev pub ghost-set : goal.ghost-set
ghost-set a = with_answered a.self.now.past a.bytes.now a.count
