use Rattle.rt_laws.proofs.AsIf.{lawful-so}
use Rattle.rt_laws.proofs.Drawings.{drawn_stays}
use Rattle.rt_laws.proofs.drawing.what_was_drawn_stays.Goals as goal

pub returns-clause-stays : goal.returns-clause-stays
returns-clause-stays c = drawn_stays

pub returns-clause-decides_nothing : goal.returns-clause-decides_nothing
returns-clause-decides_nothing c s drawn x l = lawful-so drawn s x l
