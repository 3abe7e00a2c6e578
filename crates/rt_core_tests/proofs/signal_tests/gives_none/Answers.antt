use Rattle.rt_world.proofs.Walked.{kept-kept}
use Rattle.rt_core_tests.proofs.signal_tests.gives_none.Goals as goal

pub returns : goal.returns
returns g c =
    kept-kept c.args.world.now c.new.new.world c.give_up-2.new.world c.new.ensures.kept (kept-kept c.new.new.world c.give_up.new.world c.give_up-2.new.world c.give_up.ensures.kept c.give_up-2.ensures.kept)
