use Rattle.rt_laws.proofs.Drawings.{moody_run, moody_not_valid}
use Rattle.rt_laws.proofs.drawing.a_root_that_pends_by_what_is_drawn_is_not_valid.Goals as goal

pub returns-clause-run : goal.returns-clause-run
returns-clause-run c = moody_run

pub returns-clause-invalid : goal.returns-clause-invalid
returns-clause-invalid c = moody_not_valid
