use Rattle.rt_core.proofs.Prelude.{◌≡◌, ◌≤◌, List, [], Result, None, length, take, drop, Error, Poll, World, IsPolling, Kept, Walked, Joins, drains}
use Rattle.rt_core.proofs.join_all.drain.Given as goal

abbrev pub invariant-loop-left : goal.invariant-loop-left
invariant-loop-left g l = record {
  polling : IsPolling l.world l.cx.task;
  kept : Kept g.G.Rng.stream l.fn.world l.world;
  long : l.fn.world.lacked ≡ None → l.world.lacked ≡ None;
  within : l.left ≤ length l.group.handles;
  convert : l.group.convert ≡ l.fn.group.convert;
  goes : (end : World g.row.T.Denot g.row.T-Output.Denot g.row.G.Denot) (answer : Poll (Result (List g.row.V.Denot) Error)) (left : Joins g.row.T-Output.Denot g.row.P.Denot g.row.V.Denot g.row.F.Denot) → Walked (drains (λ state. g.P.Poller.polls state l.fn.world.told.state.clock.time l.cx.task) g.P.Poller.spends l.fn.group.convert l.fn.failure (drop l.left l.group.handles) (take l.left l.group.handles)) l.world end answer left → Walked (drains (λ state. g.P.Poller.polls state l.fn.world.told.state.clock.time l.cx.task) g.P.Poller.spends l.fn.group.convert l.fn.failure [] l.fn.group.handles) l.fn.world end answer left;
}

abbrev pub decreases-loop-left : goal.decreases-loop-left
decreases-loop-left g l = l.left
