use Rattle.rt_core.proofs.Prelude.{◌≡◌, List, Result, None, length, Error, Poll, World, IsPolling, Kept, Walked, Joins, joins}
use Rattle.rt_core.proofs.join_all.join.Given as goal

abbrev pub invariant-loop-handle : goal.invariant-loop-handle
invariant-loop-handle g l = record {
  polling : IsPolling l.world l.cx.task;
  kept : Kept g.G.Rng.stream l.fn.world l.world;
  long : l.fn.world.lacked ≡ None → l.world.lacked ≡ None;
  fine : l.group.failure ≡ None;
  convert : l.group.convert ≡ l.fn.group.convert;
  goes : (end : World g.row.T.Denot g.row.T-Output.Denot g.row.G.Denot) (answer : Poll (Result (List g.row.V.Denot) Error)) (left : Joins g.row.T-Output.Denot g.row.P.Denot g.row.V.Denot g.row.F.Denot) → Walked (joins (λ state. g.P.Poller.polls state l.fn.world.told.state.clock.time l.cx.task) g.P.Poller.spends (g.F.Convert.converted l.fn.group.convert) l.fn.group.convert l.group.outputs l.group.handles) l.world end answer left → Walked (joins (λ state. g.P.Poller.polls state l.fn.world.told.state.clock.time l.cx.task) g.P.Poller.spends (g.F.Convert.converted l.fn.group.convert) l.fn.group.convert l.fn.group.outputs l.fn.group.handles) l.fn.world end answer left;
}

abbrev pub decreases-loop-handle : goal.decreases-loop-handle
decreases-loop-handle g l = length l.group.handles
