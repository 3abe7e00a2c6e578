use Rattle.rt_core.proofs.Prelude.{Gives, spent-nothing, spends-on, closes, stop_spends}
use Rattle.rt_core.proofs.stop.StopPollerUnit.give_up.Goals as goal

pub returns-clause-steps : goal.returns-clause-steps
unfolding stop_spends
returns-clause-steps g c =
    spends-on _ _ _ (c.give_up.ensures.steps.ends (closes c.args.self.context.node) _ (c.close.ensures.closed.ends (Gives tt tt) _ (spent-nothing _)))
