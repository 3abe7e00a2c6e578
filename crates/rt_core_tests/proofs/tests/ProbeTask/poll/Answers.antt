use Rattle.std.proofs.Common.{◌≡◌, ◌∙◌, refl, sym, true, Ok}
use Rattle.rt_core.specs.Pollers.{sleep_until, until}
use Rattle.rt_world.proofs.Walked.{kept-kept, polled-gives}
use Rattle.rt_core_tests.proofs.tests.ProbeTask.poll.Goals as goal

pub returns-clause-kept : goal.returns-clause-kept
returns-clause-kept g c =
    kept-kept c.args.world.now c.poll.new.world c.give_up-2.new._world c.poll.ensures.kept (kept-kept c.poll.new.world c.give_up.new._world c.give_up-2.new._world c.give_up.ensures.kept (kept-kept c.give_up.new._world c.poll-2.new.world c.give_up-2.new._world c.poll-2.ensures.kept c.give_up-2.ensures.kept))

pub returns-clause-steps : goal.returns-clause-steps
unfolding sleep_until
returns-clause-steps g c =
    let made : Ok c.in-Ok.sleep ≡ sleep_until 5 = sym c.in-Ok.is ∙ c.sleep_until.ensures in
    let is : c.in-Ok.sleep ≡ until 5 = cc in
    let calls : c.args.self.now.calls ≡ true = cc in
    let slept = rw is at c.poll.ensures.steps in
    let turned = rw c.reschedule-turn.ensures at c.poll-2.ensures.steps in
    rw calls (slept.onward _ _ _ _ (c.give_up.ensures.steps.onward _ _ _ _ (turned.onward _ _ _ _ (c.give_up-2.ensures.steps.onward _ _ _ _ (polled-gives _ _ _ _ refl)))))
