use Rattle.rt_core.proofs.Prelude.{ap, Clock}
use Rattle.rt_core.proofs.Stops.{first-goes, refused-goes, still-goes}
use Rattle.rt_core.proofs.stop.StopPollerUnit.poll.Goals as goal

pub returns-in-Ok-clause-steps : goal.returns-in-Ok-clause-steps
returns-in-Ok-clause-steps g c =
    first-goes c.args.self.now _ _ _ _ _ _ c.begin.new.self _ _ c.in-Begins.is (ap (λ (k : Clock). k.time) c.begin.ensures.kept.clock) (rw c.in-Ok.is at c.begin.ensures.steps) c.wait.ensures.steps

pub returns-in-Err-clause-steps : goal.returns-in-Err-clause-steps
returns-in-Err-clause-steps g c =
    refused-goes c.args.self.now _ _ _ _ _ _ c.in-Begins.is (rw c.in-Err.is at c.begin.ensures.steps)

pub returns-in_default : goal.returns-in_default
returns-in_default g c = record {
  kept = c.wait-in_default.ensures.kept;
  steps = still-goes c.args.self.now _ _ _ _ _ _ c.in_default.not-Begins c.wait-in_default.ensures.steps;
  lack = c.wait-in_default.ensures.lack;
}
