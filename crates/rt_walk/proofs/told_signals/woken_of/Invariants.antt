use Rattle.rt_walk.proofs.Prelude.{◌≡◌, ◌++◌, length}
use Rattle.rt_walk.proofs.told_signals.woken_of.Given as goal

abbrev pub invariant-loop-task : goal.invariant-loop-task
invariant-loop-task l = record {
  told : l.signals.told ≡ l.fn.signals.told;
  woken : l.woken.items ++ l.signals.woken ≡ l.fn.signals.woken;
}

abbrev pub decreases-loop-task : goal.decreases-loop-task
decreases-loop-task l = length l.signals.woken
