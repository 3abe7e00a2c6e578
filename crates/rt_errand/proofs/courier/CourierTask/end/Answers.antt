use Rattle.rt_core.proofs.Tasks.{spent-nothing}
use Rattle.rt_errand.proofs.courier.CourierTask.end.Goals as goal

pub returns-in-Carries-clause-steps : goal.returns-in-Carries-clause-steps
returns-in-Carries-clause-steps g c =
    rw c.in-Carries.is (c.give_up.ensures.steps.ends _ _ (c.give_up-in-Carries.ensures.steps.ends _ _ (c.close.ensures.closed.ends _ _ (spent-nothing _))))
