use Rattle.rt_buffer.proofs.Crashes.{memory_all}
use Rattle.rt_buffer.proofs.write.Write.new.Goals as goal

pub returns-clause-memory : goal.returns-clause-memory
returns-clause-memory g c = memory_all
