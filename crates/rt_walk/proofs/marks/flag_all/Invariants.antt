use Rattle.rt_walk.proofs.Prelude.{◌≡◌, ◌++◌, length, flag_all, due_all}
use Rattle.rt_walk.proofs.marks.flag_all.Given as goal

abbrev pub invariant-loop-task : goal.invariant-loop-task
invariant-loop-task l = record {
  marks : flag_all l.rest l.marks ≡ flag_all l.fn.tasks l.fn.marks;
  due : l.due.items ++ due_all l.rest l.marks ≡ l.fn.due.items ++ due_all l.fn.tasks l.fn.marks;
}

abbrev pub decreases-loop-task : goal.decreases-loop-task
decreases-loop-task l = length l.rest
