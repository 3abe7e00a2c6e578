use Rattle.rt_core.proofs.Prelude.{signal_spends, spends-on, spent-nothing, spent-spend}
use Rattle.rt_core.proofs.signals.SignalPollerI32.give_up.Goals as goal

pub returns-in-Open-clause-steps : goal.returns-in-Open-clause-steps
unfolding signal_spends
returns-in-Open-clause-steps g c =
    rw (← c.into_kind.ensures, c.in-Open.is) (spends-on _ _ _ (spent-spend _ _ _ _ _ tt c.close_signal.ensures.spent (spent-nothing _)))

pub returns-in-Resolved-clause-steps : goal.returns-in-Resolved-clause-steps
unfolding signal_spends
returns-in-Resolved-clause-steps g c = rw (← c.into_kind.ensures, c.in-Resolved.is) (spends-on _ _ _ (spent-nothing _))
