use Rattle.rt_core.proofs.Prelude.{timeout_spends}
use Rattle.rt_core.proofs.timeout.TimeoutPoller.give_up.Goals as goal

pub returns-clause-steps : goal.returns-clause-steps
unfolding timeout_spends
returns-clause-steps g c = c.give_up.ensures.steps
