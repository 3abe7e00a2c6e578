use Rattle.rt_core.proofs.Prelude.{◌≡◌, into_iter_items, into_iter_len, MayCall, World, Kept, Spent, handle_spends, each}
use Rattle.rt_core.proofs.handle.HandleOf.give_all_up.Given as goal

abbrev pub invariant-loop-handle : goal.invariant-loop-handle
invariant-loop-handle g l = record {
  calling : MayCall l.world.told.state l.world.out;
  kept : Kept g.G.Rng.stream l.fn.world l.world;
  lacked : l.world.lacked ≡ l.fn.world.lacked;
  goes : (end : World g.row.T.Denot g.row.O.Denot g.row.G.Denot) → Spent (each (handle_spends g.P.Poller.spends) (into_iter_items l.rest)) l.world end → Spent (each (handle_spends g.P.Poller.spends) l.fn.handles.items) l.fn.world end;
}

abbrev pub decreases-loop-handle : goal.decreases-loop-handle
decreases-loop-handle g l = into_iter_len l.rest
