use Rattle.rt_laws.proofs.Under.{ended_unpolled, ended_visit}
use Rattle.rt_laws.proofs.nobody_is_polled_below_an_end.Goals as goal

pub returns-clause-on_it : goal.returns-clause-on_it
returns-clause-on_it c = ended_unpolled

pub returns-clause-below : goal.returns-clause-below
returns-clause-below c = ended_visit
