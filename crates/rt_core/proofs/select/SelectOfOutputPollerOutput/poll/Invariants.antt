use Rattle.rt_core.proofs.Prelude.{◌≡◌, ◌-◌, List, Result, None, vec_len, take, drop, Error, Poll, World, IsPolling, Kept, Walked, polls_rest, select_polls, Kind}
use Rattle.rt_core.proofs.select.SelectOfOutputPollerOutput.poll.Given as goal

abbrev pub invariant-loop-place : goal.invariant-loop-place
invariant-loop-place g l = record {
  polling : IsPolling l.world l.cx.task;
  kept : Kept g.G.Rng.stream l.fn.world l.world;
  long : l.fn.world.lacked ≡ None → l.world.lacked ≡ None;
  goes : (end : World g.row.T.Denot g.row.T-Output.Denot g.row.G.Denot) (answer : Poll (Result g.row.T-Output.Denot Error)) (left : List (Kind g.row.T-Output.Denot g.row.P.Denot)) → Walked (polls_rest (λ state. g.P.Poller.polls state l.fn.world.told.state.clock.time l.cx.task) g.P.Poller.spends (take l.place l.self-inside.handles.items) (drop l.place l.self-inside.handles.items)) l.world end answer left → Walked (select_polls (λ state. g.P.Poller.polls state l.fn.world.told.state.clock.time l.cx.task) g.P.Poller.spends l.fn.self) l.fn.world end answer left;
}

abbrev pub decreases-loop-place : goal.decreases-loop-place
decreases-loop-place g l = vec_len l.self-inside.handles - l.place
