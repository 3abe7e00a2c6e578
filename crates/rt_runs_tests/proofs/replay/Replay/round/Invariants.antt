use Rattle.std.proofs.Common.{◌≡◌, length}
use Rattle.rt_model.specs.State.{Visiting}
use Rattle.rt_model.specs.Causes.{from_running}
use Rattle.rt_model.specs.Effects.{left_of}
use Rattle.rt_runs_tests.proofs.replay.Replay.round.Given as goal

abbrev pub invariant-loop-task : goal.invariant-loop-task
invariant-loop-task l = record {
  phase : l.self.told.state.phase ≡ Visiting (left_of l.self.told.state.phase);
  left : from_running l.self.told.state.running (left_of l.self.told.state.phase) ≡ from_running l.self.told.state.running l.rest;
}

abbrev pub decreases-loop-task : goal.decreases-loop-task
decreases-loop-task l = length l.rest
