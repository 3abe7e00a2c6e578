use Rattle.rt_core.proofs.Prelude.{sym, ◌∙◌, handle_spends, spent-spend, spent-nothing, spends-on}
use Rattle.rt_core.proofs.handle.HandleOfOutputPollerOutput.give_up.Goals as goal

pub returns-in-Task-clause-steps : goal.returns-in-Task-clause-steps
unfolding handle_spends
returns-in-Task-clause-steps g c =
    rw (sym c.into_kind.ensures ∙ c.in-Task.is) (spends-on _ _ _ (spent-spend _ _ _ _ _ tt c.give_up.ensures.spent (spent-nothing _)))
