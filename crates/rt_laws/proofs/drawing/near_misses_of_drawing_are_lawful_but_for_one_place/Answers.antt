use Rattle.rt_laws.proofs.Drawings.{short_draw}
use Rattle.rt_laws.proofs.drawing.near_misses_of_drawing_are_lawful_but_for_one_place.Goals as goal

pub returns : goal.returns
returns c = short_draw
