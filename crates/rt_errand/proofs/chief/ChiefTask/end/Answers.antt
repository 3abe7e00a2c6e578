use Rattle.rt_core.proofs.Tasks.{spent-nothing}
use Rattle.rt_errand.proofs.chief.ChiefTask.end.Goals as goal

pub returns-in-Watches-clause-steps : goal.returns-in-Watches-clause-steps
returns-in-Watches-clause-steps g c =
    rw c.in-Watches.is (c.give_up.ensures.steps.ends _ _ (c.give_up-in-Watches.ensures.steps.ends _ _ (c.close.ensures.closed.ends _ _ (spent-nothing _))))
