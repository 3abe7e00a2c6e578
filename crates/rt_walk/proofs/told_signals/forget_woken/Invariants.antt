use Rattle.rt_walk.proofs.Prelude.{◌≡◌, length}
use Rattle.rt_walk.proofs.told_signals.forget_woken.Given as goal

abbrev pub invariant-loop-task : goal.invariant-loop-task
invariant-loop-task l = l.signals.told ≡ l.fn.signals.told

abbrev pub decreases-loop-task : goal.decreases-loop-task
decreases-loop-task l = length l.signals.woken
