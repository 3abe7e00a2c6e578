use Rattle.rt_scripts.proofs.Prelude.{spends-on, spent-nothing}
use Rattle.rt_scripts.proofs.script.give_stop_up.Goals as goal

pub returns-in_default-clause-steps : goal.returns-in_default-clause-steps
returns-in_default-clause-steps g c = rw c.in_default.is (spends-on _ _ _ (spent-nothing _))
