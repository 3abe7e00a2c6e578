use Rattle.rt_core.proofs.Prelude.{refl}
use Rattle.rt_core.proofs.Completing.{aborted-goes, answered-goes, held-goes, polled-goes}
use Rattle.rt_core.proofs.completion.CompletionOutputPollerOutput.poll.Goals as goal

pub returns-in-Aborted-clause-steps : goal.returns-in-Aborted-clause-steps
returns-in-Aborted-clause-steps g c = aborted-goes _ _ _ c.in-Aborted.is

pub returns-in-Answered-clause-steps : goal.returns-in-Answered-clause-steps
returns-in-Answered-clause-steps g c = answered-goes _ _ _ c.in-Answered.is

pub returns-in-Held-clause-steps : goal.returns-in-Held-clause-steps
returns-in-Held-clause-steps g c =
    held-goes _ _ _ c.in-Held.held _ _ c.in-Open.is c.in-Held.is c.take_held-answer.ensures.answer (rw (c.take_held-answer.ensures.gone, c.in-Open.is) refl)

pub returns-in-Pending-clause-steps : goal.returns-in-Pending-clause-steps
returns-in-Pending-clause-steps g c =
    polled-goes _ _ _ _ c.in-Polled.state _ _ _ c.in-Open.is c.in-Polled.is (rw c.in-Open.is refl) (rw c.in-Pending.is at c.poll.ensures.steps)

pub returns-in-Ready-clause-steps : goal.returns-in-Ready-clause-steps
returns-in-Ready-clause-steps g c =
    polled-goes _ _ _ _ c.in-Polled.state _ _ _ c.in-Open.is c.in-Polled.is refl (rw c.in-Ready.is at c.poll.ensures.steps)
