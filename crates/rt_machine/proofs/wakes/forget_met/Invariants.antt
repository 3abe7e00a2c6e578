use Rattle.rt_machine.proofs.Prelude.{◌≡◌, ◌+◌, length}
use Rattle.rt_machine.proofs.wakes.forget_met.Given as goal

abbrev pub invariant-loop-task : goal.invariant-loop-task
invariant-loop-task l = record {
  told : l.groups.told ≡ l.fn.groups.told;
  stop : l.groups.stop ≡ l.fn.groups.stop;
  count : l.count + length l.groups.woken ≡ length l.fn.groups.woken;
}

abbrev pub decreases-loop-task : goal.decreases-loop-task
decreases-loop-task l = length l.groups.woken
