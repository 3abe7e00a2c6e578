use Rattle.rt_laws.proofs.ValidDrawing.{drawing_valid, asking_valid}
use Rattle.rt_laws.proofs.drawing.inputs_that_draw_are_valid.Goals as goal

pub returns-clause-drawing : goal.returns-clause-drawing
returns-clause-drawing c = drawing_valid

pub returns-clause-asking : goal.returns-clause-asking
returns-clause-asking c = asking_valid
