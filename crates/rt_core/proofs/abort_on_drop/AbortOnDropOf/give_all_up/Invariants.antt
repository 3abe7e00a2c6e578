use Rattle.rt_core.proofs.Prelude.{◌≡◌, into_iter_items, into_iter_len, MayCall, World, Kept, Spent, guard_spends, each}
use Rattle.rt_core.proofs.abort_on_drop.AbortOnDropOf.give_all_up.Given as goal

abbrev pub invariant-loop-guard : goal.invariant-loop-guard
invariant-loop-guard g l = record {
  calling : MayCall l.world.told.state l.world.out;
  kept : Kept g.G.Rng.stream l.fn.world l.world;
  lacked : l.world.lacked ≡ l.fn.world.lacked;
  goes : (end : World g.row.T.Denot g.row.O.Denot g.row.G.Denot) → Spent (each (λ guard. guard_spends g.P.Poller.spends guard.handle) (into_iter_items l.rest)) l.world end → Spent (each (λ guard. guard_spends g.P.Poller.spends guard.handle) l.fn.guards.items) l.fn.world end;
}

abbrev pub decreases-loop-guard : goal.decreases-loop-guard
decreases-loop-guard g l = into_iter_len l.rest
