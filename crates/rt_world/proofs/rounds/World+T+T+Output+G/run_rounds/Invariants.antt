use Rattle.rt_world.proofs.Prelude.{◌≡◌, ◌-◌, None, MAX_TIME, First, with_first, GoesOn, Runs, StandsBetween}
use Rattle.rt_world.proofs.rounds.World+T+T+Output+G.run_rounds.Given as goal

abbrev pub invariant-loop-order : goal.invariant-loop-order
invariant-loop-order g l = record {
  runs : Runs g.G.Rng.stream l.fn.self l.self;
  stands : StandsBetween l.self.told.state;
  unmarked : l.self.lacked ≡ None;
  agrees : (first : First g.row.T.Denot g.row.T-Output.Denot) → GoesOn (with_first g.T.Task.steps first) l.fn.self l.self;
}

abbrev pub decreases-loop-order : goal.decreases-loop-order
decreases-loop-order g l = MAX_TIME - l.self.told.state.clock.time
