use Rattle.rt_core.proofs.Prelude.{refl, rules, SFits, w32, to_z-of_z, asks_stopped, stopped-tells}
use Rattle.rt_core.proofs.context.Context.stopped.Goals as goal

pub returns-in-Ok-Waiting-clause-steps : goal.returns-in-Ok-Waiting-clause-steps
unfolding asks_stopped
returns-in-Ok-Waiting-clause-steps g c =
    rw c.open.ensures (stopped-tells c.args.world.now c.stopped.new.self _ _ c.stopped.result c.stopped.ensures.ok c.stopped.ensures.err (rw (c.in-Ok-Waiting.is, c.in-Ok-Waiting.field-0-is) refl))

pub returns-in-Ok-Resolved-clause-steps : goal.returns-in-Ok-Resolved-clause-steps
unfolding asks_stopped
returns-in-Ok-Resolved-clause-steps g c =
    let fits : SFits w32 c.in-Ok-Resolved.value = search rules in
    rw (c.of.ensures, to_z-of_z w32 c.in-Ok-Resolved.value fits)
    (stopped-tells c.args.world.now c.stopped.new.self _ _ c.stopped.result c.stopped.ensures.ok c.stopped.ensures.err (rw (c.in-Ok-Resolved.is, c.in-Ok-Resolved.field-0-is) refl))

pub returns-in-Err-clause-steps : goal.returns-in-Err-clause-steps
unfolding asks_stopped
returns-in-Err-clause-steps g c =
    stopped-tells c.args.world.now c.stopped.new.self _ _ c.stopped.result c.stopped.ensures.ok c.stopped.ensures.err (rw c.in-Err.is refl)
