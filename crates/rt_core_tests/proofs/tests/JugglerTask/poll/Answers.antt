use Rattle.std.proofs.Common.{refl}
use Rattle.rt_world.proofs.Walked.{kept-kept, polled-gives}
use Rattle.rt_core_tests.proofs.tests.JugglerTask.poll.Goals as goal

pub returns-clause-steps : goal.returns-clause-steps
returns-clause-steps g c =
    let three = rw c.reschedule.ensures at c.poll-3.ensures.steps in
    let four = rw c.reschedule-2.ensures at c.poll-4.ensures.steps in
    c.poll.ensures.steps.onward _ _ _ _ (c.poll-2.ensures.steps.onward _ _ _ _ (three.onward _ _ _ _ (four.onward _ _ _ _ (polled-gives _ _ _ _ refl))))

pub returns-clause-kept : goal.returns-clause-kept
returns-clause-kept g c =
    kept-kept c.args.world.now c.poll.new.world c.poll-4.new.world c.poll.ensures.kept (kept-kept c.poll.new.world c.poll-2.new.world c.poll-4.new.world c.poll-2.ensures.kept (kept-kept c.poll-2.new.world c.poll-3.new.world c.poll-4.new.world c.poll-3.ensures.kept c.poll-4.ensures.kept))
