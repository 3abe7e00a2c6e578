use Rattle.rt_errand.specs.Naps.{nap_polls, rests}
use Rattle.rt_core.proofs.Tasks.{goes-gives, goes-then}
use Rattle.rt_errand.proofs.nap.NapPollerUnit.poll.Goals as goal

pub returns-in-Pending-clause-steps : goal.returns-in-Pending-clause-steps
unfolding nap_polls
returns-in-Pending-clause-steps g c =
    goes-then _ _ _ _ (rests c.args.self.now c.args.cx.now.task) _ _ _ _ c.in-Pending.ensures.steps (goes-gives _ _ _)

pub returns-in-Ready-Ok-clause-steps : goal.returns-in-Ready-Ok-clause-steps
unfolding nap_polls
returns-in-Ready-Ok-clause-steps g c =
    goes-then _ _ _ _ (rests c.args.self.now c.args.cx.now.task) _ _ _ _ (rw c.in-Ready-Ok.field-0-is at c.in-Ready-Ok.ensures.steps) (goes-then _ _ _ _ _ _ _ _ _ c.poll-in-Ready-Ok.ensures.steps (goes-gives _ _ _))

pub returns-in-Ready-Err-clause-steps : goal.returns-in-Ready-Err-clause-steps
unfolding nap_polls
returns-in-Ready-Err-clause-steps g c =
    goes-then _ _ _ _ (rests c.args.self.now c.args.cx.now.task) _ _ _ _ (rw c.in-Ready-Err.field-0-is at c.in-Ready-Err.ensures.steps) (goes-gives _ _ _)
