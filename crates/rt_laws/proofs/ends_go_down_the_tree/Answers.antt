use Rattle.rt_laws.proofs.Under.{born_ended, ends_below, end_stays}
use Rattle.rt_laws.proofs.ends_go_down_the_tree.Goals as goal

pub returns-clause-born : goal.returns-clause-born
returns-clause-born c = born_ended

pub returns-clause-below : goal.returns-clause-below
returns-clause-below c = ends_below

pub returns-clause-stays : goal.returns-clause-stays
returns-clause-stays c = end_stays
