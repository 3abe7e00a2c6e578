use Rattle.rt_scripts.proofs.Prelude.{◌≡◌, ◌<◌, length, Gives, root_context, begun, besides, making}
use Rattle.std.specs.List.{All}
use Rattle.rt_world.specs.Calls.{Kept}
use Rattle.rt_scripts.proofs.Makings.{Leads}
use Rattle.rt_scripts.proofs.maker.RootScriptRootMakerScript.make.Given as goal

abbrev pub invariant-loop-place : goal.invariant-loop-place
invariant-loop-place g l = record {
  kept : Kept g.G.Rng.stream l.fn.world l.world;
  context : l.context ≡ root_context;
  within : All (λ place. place < length l.fn.self.program) l.rest;
  leads : Leads (making l.fn.self) (besides root_context l.fn.self.program l.rest (Gives tt (begun l.fn.self))) l.fn.world l.world;
}

abbrev pub decreases-loop-place : goal.decreases-loop-place
decreases-loop-place g l = length l.rest
