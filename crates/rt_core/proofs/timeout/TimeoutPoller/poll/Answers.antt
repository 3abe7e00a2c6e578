use Rattle.rt_core.proofs.Timeouts.{refused-goes, ready-goes, pending-goes}
use Rattle.rt_core.proofs.timeout.TimeoutPoller.poll.Goals as goal

pub returns-in-Err-clause-steps : goal.returns-in-Err-clause-steps
returns-in-Err-clause-steps g c =
    refused-goes _ _ _ _ _ _ _ _ _ c.in-Err.is c.now.ensures.time c.begin.ensures.sleep c.begin.ensures.rest

pub returns-in-Pending-clause-steps : goal.returns-in-Pending-clause-steps
returns-in-Pending-clause-steps g c =
    rw (c.over.ensures, c.begin.ensures.rest) (pending-goes _ _ _ _ _ _ c.in-Ok.sleep _ _ _ c.in-Ok.is c.now.ensures.time c.begin.ensures.sleep _ _ _ (rw (c.begin.ensures.rest, c.in-Pending.is) at c.poll.ensures.steps) c.poll-slept.ensures.steps)

pub returns-in-Ready-clause-steps : goal.returns-in-Ready-clause-steps
returns-in-Ready-clause-steps g c =
    rw c.begin.ensures.rest (ready-goes _ _ _ _ _ _ c.in-Ok.sleep _ _ _ c.in-Ok.is c.now.ensures.time c.begin.ensures.sleep _ (rw (c.begin.ensures.rest, c.in-Ready.is) at c.poll.ensures.steps))
