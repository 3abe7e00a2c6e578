use Rattle.std.specs.Prelude.{length}
use Rattle.rt_net_tests.proofs.listeners.tasks_woken.Given as goal

abbrev pub decreases-loop-task : goal.decreases-loop-task
decreases-loop-task g l = length (g.N.Network.woken l.net)
