use Rattle.rt_core.proofs.Prelude.{still, Waits, Limited}
use Rattle.rt_core.proofs.Completing.{wrapped-goes}
use Rattle.rt_core.proofs.stop.Stop.wait.Goals as goal

pub returns-in-Waits-clause-steps : goal.returns-in-Waits-clause-steps
unfolding still
returns-in-Waits-clause-steps g c =
    rw c.in-Waits.is (wrapped-goes _ (λ completion. record c.args.self.now { stage = Waits completion }) _ _ _ _ c.poll.ensures.steps)

pub returns-in-Limited-clause-steps : goal.returns-in-Limited-clause-steps
unfolding still
returns-in-Limited-clause-steps g c =
    rw c.in-Limited.is (wrapped-goes _ (λ limit. record c.args.self.now { stage = Limited limit }) _ _ _ _ c.poll-in-Limited.ensures.steps)
