use Rattle.rt_core.proofs.Prelude.{refl, asks_auditor, auditor-tells}
use Rattle.rt_core.proofs.context.Context.auditor.Goals as goal

pub returns-in-Ok-clause-steps : goal.returns-in-Ok-clause-steps
unfolding asks_auditor
returns-in-Ok-clause-steps g c = auditor-tells c.args.world.now c.auditor.new.self _ _ c.auditor.result c.auditor.ensures.ok c.auditor.ensures.err (rw c.in-Ok.is refl)

pub returns-in-Err-clause-steps : goal.returns-in-Err-clause-steps
unfolding asks_auditor
returns-in-Err-clause-steps g c = auditor-tells c.args.world.now c.auditor.new.self _ _ c.auditor.result c.auditor.ensures.ok c.auditor.ensures.err (rw c.in-Err.is refl)
