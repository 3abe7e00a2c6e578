use Rattle.rt_laws.proofs.Drawings.{asking_run}
use Rattle.rt_laws.proofs.drawing.a_root_that_asks_has_its_run.Goals as goal

pub returns : goal.returns
returns c = asking_run
