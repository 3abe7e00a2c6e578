use Rattle.rt_core.proofs.Prelude.{refl, clones, clone-tells, goes-on, walked-gives}
use Rattle.rt_core.proofs.signals.Signal.clone_signal.Goals as goal

pub returns-in-Ok-clause-steps : goal.returns-in-Ok-clause-steps
unfolding clones
returns-in-Ok-clause-steps g c =
    rw (← c.self.view_is, c.in-Open.is, c.open.ensures) (clone-tells c.args.world.now c.clone_signal.new.self _ _ c.in-Open.signal c.clone_signal.result c.clone_signal.ensures.ok c.clone_signal.ensures.err (rw c.in-Ok.is refl))

pub returns-in-Err-clause-steps : goal.returns-in-Err-clause-steps
unfolding clones
returns-in-Err-clause-steps g c =
    rw (← c.self.view_is, c.in-Open.is) (clone-tells c.args.world.now c.clone_signal.new.self _ _ c.in-Open.signal c.clone_signal.result c.clone_signal.ensures.ok c.clone_signal.ensures.err (rw c.in-Err.is refl))

pub returns-in-Resolved-clause-steps : goal.returns-in-Resolved-clause-steps
unfolding clones
returns-in-Resolved-clause-steps g c =
    rw (← c.self.view_is, c.of.ensures, c.in-Resolved.is) (goes-on _ _ _ _ _ (walked-gives _ _ _))
