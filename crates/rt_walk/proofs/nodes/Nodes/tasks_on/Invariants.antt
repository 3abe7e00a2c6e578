use Rattle.rt_walk.proofs.Prelude.{◌≡◌, ◌++◌, drop, tasks_on}
use Rattle.rt_walk.proofs.nodes.Nodes.tasks_on.Given as goal

abbrev pub invariant-loop-node : goal.invariant-loop-node
invariant-loop-node l = l.tasks.items ++ tasks_on l.self (drop l.node-index l.nodes) ≡ tasks_on l.self l.nodes
