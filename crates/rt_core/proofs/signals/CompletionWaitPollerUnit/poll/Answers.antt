use Rattle.rt_core.proofs.Prelude.{goes-on}
use Rattle.rt_core.specs.Signals.{completion_polls}
use Rattle.rt_core.proofs.Signaled.{walked-met}
use Rattle.rt_core.proofs.signals.CompletionWaitPollerUnit.poll.Goals as goal

pub returns-clause-steps : goal.returns-clause-steps
unfolding completion_polls
returns-clause-steps g c =
    rw (← c.self.view_is) (goes-on _ _ _ _ _ (rw c.polled.ensures (walked-met _ _ _ _ _ c.poll_completion.ensures.ok c.poll_completion.ensures.err)))
