use Rattle.rt_core.proofs.Prelude.{rules, SFits, w32, to_z-of_z, signal_polls, goes-on, walked-gives}
use Rattle.rt_core.proofs.Signaled.{walked-shown}
use Rattle.rt_core.proofs.signals.SignalPollerI32.poll.Goals as goal

pub returns-clause-steps : goal.returns-clause-steps
unfolding signal_polls
returns-clause-steps g c =
    rw (← c.self.view_is, c.in-Open.is) (goes-on _ _ _ _ _ (rw c.polled.ensures (walked-shown _ _ _ _ _ c.poll_signal.ensures.ok c.poll_signal.ensures.err)))

pub returns-in-Resolved-clause-steps : goal.returns-in-Resolved-clause-steps
unfolding signal_polls
returns-in-Resolved-clause-steps g c =
    let fits : SFits w32 c.in-Resolved.value = search rules in
    rw (← c.self.view_is, c.in-Resolved.is, to_z-of_z w32 c.in-Resolved.value fits) (goes-on _ _ _ _ _ (walked-gives _ _ _))
