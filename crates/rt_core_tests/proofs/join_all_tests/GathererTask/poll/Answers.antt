use Rattle.std.proofs.Common.{refl}
use Rattle.rt_world.proofs.Walked.{polled-gives}
use Rattle.rt_core_tests.proofs.join_all_tests.GathererTask.poll.Goals as goal

pub returns-in-Pending-clause-steps : goal.returns-in-Pending-clause-steps
returns-in-Pending-clause-steps g c =
    rw c.in-Some.is ((rw c.in-Pending.is at c.poll.ensures.steps).onward _ _ _ _ (polled-gives _ _ _ _ refl))

pub returns-in-Ready-Ok-clause-steps : goal.returns-in-Ready-Ok-clause-steps
returns-in-Ready-Ok-clause-steps g c =
    rw c.in-Some.is ((rw (c.in-Ready-Ok.is, c.in-Ready-Ok.field-0-is) at c.poll.ensures.steps).onward _ _ _ _ (polled-gives _ _ _ _ refl))

pub returns-in-Ready-Err-clause-steps : goal.returns-in-Ready-Err-clause-steps
returns-in-Ready-Err-clause-steps g c =
    rw c.in-Some.is ((rw (c.in-Ready-Err.is, c.in-Ready-Err.field-0-is) at c.poll.ensures.steps).onward _ _ _ _ (polled-gives _ _ _ _ refl))
