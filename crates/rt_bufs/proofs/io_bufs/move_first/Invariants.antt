use Rattle.std.proofs.Common.{◌≡◌, ◌+◌, ◌++◌, take, drop}
use Rattle.std.specs.VecDeque.{deque_len, deque_capacity}
use Rattle.rt_bufs.proofs.io_bufs.move_first.Given as goal

abbrev pub invariant-loop : goal.invariant-loop
invariant-loop l = record {
  from : l.from.items ≡ drop l.counter l.fn.from.items;
  to : l.to.items ≡ l.fn.to.items ++ take l.counter l.fn.from.items;
  used : deque_len l.to ≡ deque_len l.fn.to + l.counter;
  room : deque_capacity l.to ≡ deque_capacity l.fn.to;
}
