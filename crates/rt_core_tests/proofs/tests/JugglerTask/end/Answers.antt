use Rattle.rt_world.proofs.Walked.{kept-kept, spent-nothing}
use Rattle.rt_core_tests.proofs.tests.JugglerTask.end.Goals as goal

pub returns-clause-steps : goal.returns-clause-steps
returns-clause-steps g c = c.give_up.ensures.steps.ends _ _ (c.give_up-2.ensures.steps.ends _ _ (c.close.ensures.closed.ends _ _ (spent-nothing _)))

pub returns-clause-kept : goal.returns-clause-kept
returns-clause-kept g c =
    kept-kept c.args.world.now c.give_up.new._world c.close.new.world c.give_up.ensures.kept (kept-kept c.give_up.new._world c.give_up-2.new._world c.close.new.world c.give_up-2.ensures.kept c.close.ensures.kept)
