use Rattle.rt_world.proofs.Prelude.{Bool, Option, length, First, with_first, AgreesWith, still, Writes, Ends}
use Rattle.rt_world.proofs.ends.World+T+T+Output+G.end_all.Given as goal

abbrev pub invariant-loop-one : goal.invariant-loop-one
invariant-loop-one g l = record {
  ends : Ends l.fn.self l.self;
  writes : Writes g.G.Rng.stream l.fn.self l.self;
  agrees : (first : First g.row.T.Denot g.row.T-Output.Denot) (whole : Bool) (output : Option g.row.T-Output.Denot) (unmade : Option g.row.T.Denot) → AgreesWith (with_first g.T.Task.steps first) whole l.fn.self output unmade → AgreesWith (with_first g.T.Task.steps first) (still l.lacked whole) l.self output unmade;
}

abbrev pub decreases-loop-one : goal.decreases-loop-one
decreases-loop-one g l = length l.self.told.state.running
