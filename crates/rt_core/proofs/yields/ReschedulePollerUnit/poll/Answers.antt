use Rattle.rt_core.proofs.Prelude.{reschedule_polls, walked-wake, walked-gives, goes-on}
use Rattle.rt_core.proofs.Requeue.{walked-refused}
use Rattle.rt_core.proofs.yields.ReschedulePollerUnit.poll.Goals as goal

pub returns-then-self-clause-steps : goal.returns-then-self-clause-steps
unfolding reschedule_polls
returns-then-self-clause-steps g c = goes-on _ _ _ _ _ (rw c.if-self.true (walked-gives _ _ _))

pub returns-in-Ok-clause-steps : goal.returns-in-Ok-clause-steps
unfolding reschedule_polls
returns-in-Ok-clause-steps g c = goes-on _ _ _ _ _ (rw (c.if-self.false, ← c.task.ensures) (walked-wake _ _ _ _ _ _ _ _ c.in-Ok.ensures.ok (walked-gives _ _ _)))

pub returns-in-Err-clause-steps : goal.returns-in-Err-clause-steps
unfolding reschedule_polls
returns-in-Err-clause-steps g c = goes-on _ _ _ _ _ (rw (c.if-self.false, ← c.task.ensures) (walked-refused _ _ _ _ _ c.in-Err.ensures.err))
