use Rattle.rt_core.proofs.Pausing.{late-goes, slept-goes}
use Rattle.rt_core.proofs.pause.PausePollerUnit.poll.Goals as goal

pub returns-in-Err-clause-steps : goal.returns-in-Err-clause-steps
returns-in-Err-clause-steps g c =
    rw c.replace-sleep.ensures.after (late-goes c.args.self.now _ _ c.now.ensures.time _ (rw c.replace-sleep.ensures.value at c.begun.ensures) _ _ c.in-Err.is)

pub returns-clause-steps : goal.returns-clause-steps
returns-clause-steps g c =
    slept-goes c.args.self.now _ _ c.now.ensures.time _ (rw c.replace-sleep.ensures.value at c.begun.ensures) _ _ _ _ _ c.in-Ok.is c.poll-slept.ensures.steps
