use Rattle.rt_core.proofs.Prelude.{spends-on, spent-nothing, spent-spend}
use Rattle.rt_core.specs.Signals.{completion_spends}
use Rattle.rt_core.proofs.signals.CompletionWaitPollerUnit.give_up.Goals as goal

pub returns-clause-steps : goal.returns-clause-steps
unfolding completion_spends
returns-clause-steps g c =
    rw (← c.into_number.ensures) (spends-on _ _ _ (spent-spend _ _ _ _ _ tt c.close_completion.ensures.spent (spent-nothing _)))
