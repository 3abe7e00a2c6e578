use Rattle.rt_core.proofs.Prelude.{refl, asks_bytes, filled-tells}
use Rattle.rt_core.proofs.context.Context.fill_bytes.Goals as goal

pub returns-in-Ok-clause-steps : goal.returns-in-Ok-clause-steps
unfolding asks_bytes
returns-in-Ok-clause-steps g c = filled-tells c.args.world.now c.fill_bytes.new.self _ _ _ c.fill_bytes.new.dest c.fill_bytes.result c.fill_bytes.ensures.ok c.fill_bytes.ensures.err (rw c.in-Ok.is refl)

pub returns-in-Err-clause-steps : goal.returns-in-Err-clause-steps
unfolding asks_bytes
returns-in-Err-clause-steps g c = filled-tells c.args.world.now c.fill_bytes.new.self _ _ _ c.fill_bytes.new.dest c.fill_bytes.result c.fill_bytes.ensures.ok c.fill_bytes.ensures.err (rw c.in-Err.is refl)
