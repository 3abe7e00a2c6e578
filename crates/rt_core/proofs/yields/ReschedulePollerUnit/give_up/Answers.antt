use Rattle.rt_core.proofs.Prelude.{reschedule_spends, spends-on, spent-nothing}
use Rattle.rt_core.proofs.yields.ReschedulePollerUnit.give_up.Goals as goal

pub returns-clause-steps : goal.returns-clause-steps
unfolding reschedule_spends
returns-clause-steps g c = spends-on _ _ _ (spent-nothing _)
