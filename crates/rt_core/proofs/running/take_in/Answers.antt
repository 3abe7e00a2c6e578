use Rattle.rt_core.proofs.Outcomes.{leaves-taken}
use Rattle.rt_core.proofs.running.take_in.Goals as goal

pub returns-in-Ok-clause-leaves : goal.returns-in-Ok-clause-leaves
returns-in-Ok-clause-leaves g c =
    leaves-taken _ c.args.world.now c.register_root.new.self c.run_root.new.world _ _ _ (rw c.in-Ok.is at c.register_root.ensures.ok) c.run_root.ensures.leaves
