use Rattle.rt_core.proofs.Prelude.{spent-nothing, spends-on, stage_spends}
use Rattle.rt_core.proofs.stop.Stopping.give_up.Goals as goal

pub returns-in-Begins-clause-steps : goal.returns-in-Begins-clause-steps
unfolding stage_spends
returns-in-Begins-clause-steps g c = rw c.in-Begins.is (spends-on _ _ _ (spent-nothing _))
