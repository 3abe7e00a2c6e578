use Rattle.rt_scripts.proofs.Choices.{spends-none}
use Rattle.rt_scripts.proofs.script.Script.abort_name.Goals as goal

pub returns-in_default-clause-steps : goal.returns-in_default-clause-steps
returns-in_default-clause-steps g c = rw (← c.in_default.ensures.handle) (spends-none c.args.world.now)
