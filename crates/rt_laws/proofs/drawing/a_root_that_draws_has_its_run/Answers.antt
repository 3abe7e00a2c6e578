use Rattle.rt_laws.proofs.Drawings.{drawing_run, drawing_order, drawing_drawn}
use Rattle.rt_laws.proofs.drawing.a_root_that_draws_has_its_run.Goals as goal

pub returns-clause-run : goal.returns-clause-run
returns-clause-run c = drawing_run

pub returns-clause-order : goal.returns-clause-order
returns-clause-order c = drawing_order

pub returns-clause-drawn : goal.returns-clause-drawn
returns-clause-drawn c = drawing_drawn
