use Rattle.rt_core.proofs.Prelude.{spent-spend, spent-nothing, spends-on}
use Rattle.rt_core.proofs.handle.Receipt.abort.Goals as goal

pub returns-then-self-clause-steps : goal.returns-then-self-clause-steps
returns-then-self-clause-steps g c = rw c.if-self.true (spends-on _ _ _ (spent-nothing _))

pub returns-clause-steps : goal.returns-clause-steps
returns-clause-steps g c = rw c.if-self.false (spends-on _ _ _ (spent-spend _ _ _ _ _ tt c.abort.ensures.steps.spent (spent-nothing _)))
