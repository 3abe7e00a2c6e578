use Rattle.rt_world.proofs.Prelude.{receiver_spends}
use Rattle.rt_world.proofs.Walked.{spent-spend, spent-nothing, spends-on}
use Rattle.rt_world.proofs.receiving.ResultReceiverPollerOutput.give_up.Goals as goal

pub returns-clause-steps : goal.returns-clause-steps
unfolding receiver_spends
returns-clause-steps g c =
    rw (← c.into_slot.ensures) (spends-on _ _ _ (spent-spend _ _ _ _ _ tt c.slot_give_up.ensures.spent (spent-nothing _)))
