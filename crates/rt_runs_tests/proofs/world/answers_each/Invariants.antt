use Rattle.rt_model.specs.Rules.{MayCall}
use Rattle.rt_world.specs.Calls.{Kept}
use Rattle.rt_runs_tests.proofs.world.answers_each.Given as goal

abbrev pub invariant-loop-call : goal.invariant-loop-call
invariant-loop-call g l = record {
  kept : Kept g.G.Rng.stream l.fn.world l.world;
  calling : MayCall l.world.told.state l.world.out;
}
