use Rattle.rt_world.proofs.Prelude.{receiver_polls}
use Rattle.rt_world.proofs.Walked.{walked-received, goes-on}
use Rattle.rt_world.proofs.receiving.ResultReceiverPollerOutput.poll.Goals as goal

pub returns-clause-steps : goal.returns-clause-steps
unfolding receiver_polls
returns-clause-steps g c =
    rw (← c.self.view_is) (goes-on _ _ _ _ _ (rw c.polled.ensures (walked-received _ _ _ _ _ c.slot_poll.ensures.ok c.slot_poll.ensures.err)))
