use Rattle.rt_core.proofs.Prelude.{handle_polls, Received, goes-on}
use Rattle.rt_core.specs.declared.handle.Kind.TheVariants.{Completion}
use Rattle.rt_core.proofs.Joining.{walked-joined}
use Rattle.rt_core.proofs.Completing.{wrapped-goes}
use Rattle.rt_core.proofs.handle.HandleOfOutputPollerOutput.poll.Goals as goal

pub returns-in-Task-clause-steps : goal.returns-in-Task-clause-steps
unfolding handle_polls
returns-in-Task-clause-steps g c =
    rw (← c.self.view_is, c.in-Task.is) (goes-on _ _ _ _ _ (rw c.polled.ensures (walked-joined _ _ _ _ _ c.join.ensures.ok c.join.ensures.err)))

pub returns-in-Received-clause-steps : goal.returns-in-Received-clause-steps
unfolding handle_polls
returns-in-Received-clause-steps g c = rw (← c.self.view_is, c.in-Received.is) (wrapped-goes _ (λ slot. Received (record c.in-Received.receipt { receiver = slot })) _ _ _ _ c.poll.ensures.steps)

pub returns-clause-steps : goal.returns-clause-steps
unfolding handle_polls
returns-clause-steps g c = rw (← c.self.view_is, c.in-Completion.is) (wrapped-goes _ (λ x. Completion x) _ _ _ _ c.poll-2.ensures.steps)
