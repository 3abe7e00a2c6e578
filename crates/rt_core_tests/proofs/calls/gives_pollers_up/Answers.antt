use Rattle.rt_world.proofs.Walked.{kept-kept}
use Rattle.rt_core_tests.proofs.calls.gives_pollers_up.Goals as goal

pub returns-in-Ok : goal.returns-in-Ok
returns-in-Ok g c =
    kept-kept c.args.world.now c.give_up.new.world c.give_up-in-Ok.new.world c.give_up.ensures.kept (kept-kept c.give_up.new.world c.child.new.world c.give_up-in-Ok.new.world c.child.ensures.kept c.give_up-in-Ok.ensures.kept)
