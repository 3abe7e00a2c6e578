use Rattle.rt_core.proofs.Prelude.{sleep_spends, spends-on, spent-nothing}
use Rattle.rt_core.proofs.sleep.SleepPollerUnit.give_up.Goals as goal

pub returns-clause-steps : goal.returns-clause-steps
unfolding sleep_spends
returns-clause-steps g c = spends-on _ _ _ (spent-nothing _)
