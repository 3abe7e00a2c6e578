use Rattle.rt_machine.proofs.Prelude.{◌≡◌, ◌≤◌, length, flag_all, unflagged, total, mark_places}
use Rattle.rt_machine.proofs.marks.flag_all.Given as goal

abbrev pub invariant-loop-task : goal.invariant-loop-task
invariant-loop-task l = record {
  items : flag_all l.tree.flags l.marks.items ≡ flag_all l.fn.tree.flags l.fn.marks.items;
  next : l.marks.next ≡ l.fn.marks.next;
  spare : l.marks.spare ≡ l.fn.marks.spare;
  places : total mark_places l.marks.items ≤ total mark_places l.fn.marks.items;
  tree : unflagged l.tree ≡ unflagged l.fn.tree;
}

abbrev pub decreases-loop-task : goal.decreases-loop-task
decreases-loop-task l = length l.tree.flags
