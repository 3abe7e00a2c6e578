use Rattle.rt_core.proofs.Prelude.{sym, ◌∙◌, completion_spends, spent-nothing, spends-on}
use Rattle.rt_core.proofs.completion.CompletionOutputPollerOutput.give_up.Goals as goal

pub returns-in-Held-clause-steps : goal.returns-in-Held-clause-steps
unfolding completion_spends
returns-in-Held-clause-steps g c = rw (sym c.into_source.ensures ∙ c.in-Held.is) (spends-on _ _ _ (spent-nothing _))

pub returns-in-Polled-clause-steps : goal.returns-in-Polled-clause-steps
unfolding completion_spends
returns-in-Polled-clause-steps g c = rw (sym c.into_source.ensures ∙ c.in-Polled.is) c.give_up.ensures.steps
