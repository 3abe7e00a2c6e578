use Rattle.rt_core.proofs.Prelude.{refl, asks_u64, long-tells}
use Rattle.rt_core.proofs.context.Context.next_u64.Goals as goal

pub returns-in-Ok-clause-steps : goal.returns-in-Ok-clause-steps
unfolding asks_u64
returns-in-Ok-clause-steps g c = long-tells c.args.world.now c.next_u64.new.self _ _ c.next_u64.result c.next_u64.ensures.ok c.next_u64.ensures.err (rw c.in-Ok.is refl)

pub returns-in-Err-clause-steps : goal.returns-in-Err-clause-steps
unfolding asks_u64
returns-in-Err-clause-steps g c = long-tells c.args.world.now c.next_u64.new.self _ _ c.next_u64.result c.next_u64.ensures.ok c.next_u64.ensures.err (rw c.in-Err.is refl)
