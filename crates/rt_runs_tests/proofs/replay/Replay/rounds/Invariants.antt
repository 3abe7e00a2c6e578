use Rattle.rt_model.specs.Rules.{MayRound}
use Rattle.rt_runs_tests.proofs.replay.Replay.rounds.Given as goal

abbrev pub invariant-loop : goal.invariant-loop
invariant-loop l = MayRound l.self.told.state.phase l.self.told.state
