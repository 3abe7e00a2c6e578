use Rattle.rt_scripts.proofs.Prelude.{◌≡◌, length}
use Rattle.rt_world.specs.Calls.{Kept}
use Rattle.rt_scripts.proofs.Scripts.{Releases}
use Rattle.rt_scripts.proofs.script.release_all.Given as goal

abbrev pub invariant-loop-at : goal.invariant-loop-at
invariant-loop-at g l = record {
  kept : Kept g.G.Rng.stream l.fn.world l.world;
  lacked : l.world.lacked ≡ l.fn.world.lacked;
  releases : Releases l.fn.held.items l.held.items l.fn.world l.world;
}

abbrev pub decreases-loop-at : goal.decreases-loop-at
decreases-loop-at g l = length l.held.items
