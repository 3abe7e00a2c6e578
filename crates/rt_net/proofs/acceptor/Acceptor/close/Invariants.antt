use Rattle.rt_net.proofs.Prelude.{◌≡◌, ◌+◌, ◌*◌, ◌≤◌, ◌++◌, length, deque_capacity, after_closing, woken_by_closing}
use Rattle.rt_net.proofs.acceptor.Acceptor.close.Given as goal

abbrev pub invariant-loop-connection : goal.invariant-loop-connection
invariant-loop-connection l = record {
  closed : after_closing l.channels.items l.waiting.items ≡ after_closing l.fn.channels.items l.fn.self.waiting;
  woken : l.woken.items ++ woken_by_closing l.channels.items l.waiting.items ≡ woken_by_closing l.fn.channels.items l.fn.self.waiting;
  room : length l.woken.items + 2 * length l.waiting.items ≤ deque_capacity l.woken;
}

abbrev pub decreases-loop-connection : goal.decreases-loop-connection
decreases-loop-connection l = length l.waiting.items
