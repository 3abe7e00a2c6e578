use Rattle.rt_world.proofs.Prelude.{◌≡◌, drop, None, Visiting, from_running, left_of, First, with_first, Passes, GoesOn}
use Rattle.rt_world.proofs.visits.World+T+T+Output+G.visit_all.Given as goal

abbrev pub invariant-loop-place : goal.invariant-loop-place
invariant-loop-place g l = record {
  passes : Passes g.G.Rng.stream l.fn.self l.self;
  phase : l.self.told.state.phase ≡ Visiting (left_of l.self.told.state.phase);
  left : from_running l.self.told.state.running (left_of l.self.told.state.phase) ≡ from_running l.self.told.state.running (drop l.place l.order);
  unmarked : l.self.lacked ≡ None;
  agrees : (first : First g.row.T.Denot g.row.T-Output.Denot) → GoesOn (with_first g.T.Task.steps first) l.fn.self l.self;
}
