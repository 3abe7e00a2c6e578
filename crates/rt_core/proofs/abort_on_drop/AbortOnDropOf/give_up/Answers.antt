use Rattle.rt_core.proofs.Prelude.{spends-on}
use Rattle.rt_core.proofs.abort_on_drop.AbortOnDropOf.give_up.Goals as goal

pub returns-clause-steps : goal.returns-clause-steps
returns-clause-steps g c = spends-on _ _ _ (c.abort.ensures.steps.ends _ _ (rw c.abort.ensures.handle at c.give_up.ensures.steps.spent))
