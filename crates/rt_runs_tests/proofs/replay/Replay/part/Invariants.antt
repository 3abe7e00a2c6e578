use Rattle.std.proofs.Common.{◌≡◌, true, IfSome}
use Rattle.rt_model.specs.Lists.{has_number}
use Rattle.rt_model.specs.Rules.{MayCall}
use Rattle.rt_runs_tests.proofs.replay.Replay.part.Given as goal

abbrev pub invariant-loop : goal.invariant-loop
invariant-loop l = record {
  phase : l.self.told.state.phase ≡ l.fn.self.told.state.phase;
  root : l.self.told.state.root ≡ l.fn.self.told.state.root;
  calling : MayCall l.self.told.state l.by;
  runs : IfSome l.by (λ task. has_number task l.self.told.state.running ≡ true);
}
