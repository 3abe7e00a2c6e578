use Rattle.rt_core.proofs.Prelude.{refl, makes_group, signaler-tells}
use Rattle.rt_core.proofs.signals.Signaler.new.Goals as goal

pub returns-in-Ok-clause-steps : goal.returns-in-Ok-clause-steps
unfolding makes_group
returns-in-Ok-clause-steps g c =
    rw c.open.ensures (signaler-tells c.args.world.now c.signaler.new.self _ _ c.signaler.result c.signaler.ensures.ok c.signaler.ensures.err (rw c.in-Ok.is refl))

pub returns-in-Err-clause-steps : goal.returns-in-Err-clause-steps
unfolding makes_group
returns-in-Err-clause-steps g c =
    signaler-tells c.args.world.now c.signaler.new.self _ _ c.signaler.result c.signaler.ensures.ok c.signaler.ensures.err (rw c.in-Err.is refl)
