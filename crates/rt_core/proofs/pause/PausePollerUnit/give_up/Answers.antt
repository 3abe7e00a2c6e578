use Rattle.rt_core.proofs.Prelude.{pause_spends, spends-on, spent-nothing}
use Rattle.rt_core.proofs.pause.PausePollerUnit.give_up.Goals as goal

pub returns-clause-steps : goal.returns-clause-steps
unfolding pause_spends
returns-clause-steps g c = spends-on _ _ _ (spent-nothing _)
