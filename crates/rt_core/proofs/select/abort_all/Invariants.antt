use Rattle.rt_core.proofs.Prelude.{◌≡◌, ◌-◌, length, drop, MayCall, World, Kept, Spent, aborted, handle_aborts, each}
use Rattle.rt_core.proofs.Choosing.{changed}
use Rattle.rt_core.proofs.select.abort_all.Given as goal

abbrev pub invariant-loop-place : goal.invariant-loop-place
invariant-loop-place g l = record {
  handles : l.handles ≡ changed aborted l.place l.fn.handles;
  calling : MayCall l.world.told.state l.world.out;
  kept : Kept g.G.Rng.stream l.fn.world l.world;
  lacked : l.world.lacked ≡ l.fn.world.lacked;
  goes : (end : World g.row.T.Denot g.row.O.Denot g.row.G.Denot) → Spent (each handle_aborts (drop l.place l.fn.handles)) l.world end → Spent (each handle_aborts l.fn.handles) l.fn.world end;
}

abbrev pub decreases-loop-place : goal.decreases-loop-place
decreases-loop-place g l = length l.handles - l.place
