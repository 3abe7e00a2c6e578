use Rattle.rt_core.proofs.Prelude.{no_spends, spends-on, spent-nothing}
use Rattle.rt_core.proofs.handle.NoPollerPoller.give_up.Goals as goal

pub returns-clause-steps : goal.returns-clause-steps
unfolding no_spends
returns-clause-steps g c = spends-on _ _ _ (spent-nothing _)
