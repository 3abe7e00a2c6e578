use Rattle.rt_super.proofs.Prelude.{◌≡◌, ◌++◌, length, deque_capacity, waits_in, unwaited, IsLeft}
use Rattle.rt_super.proofs.tokens.meet_each.Given as goal

abbrev pub invariant-loop-number : goal.invariant-loop-number
invariant-loop-number l = record {
  left : IsLeft l.group l.rest l.table.items;
  items : unwaited l.group l.table.items ≡ unwaited l.group l.fn.table.items;
  woken : l.woken.items ++ waits_in l.group l.table.items ≡ l.fn.woken.items ++ waits_in l.group l.fn.table.items;
  next : l.table.next ≡ l.fn.table.next;
  spare : l.table.spare ≡ l.fn.table.spare;
  room : deque_capacity l.woken ≡ deque_capacity l.fn.woken;
}

abbrev pub decreases-loop-number : goal.decreases-loop-number
decreases-loop-number l = length l.rest
