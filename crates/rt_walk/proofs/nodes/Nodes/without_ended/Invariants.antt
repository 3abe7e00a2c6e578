use Rattle.rt_walk.proofs.Prelude.{◌≡◌, ◌++◌, drop, filter, not, is_ended}
use Rattle.rt_walk.proofs.nodes.Nodes.without_ended.Given as goal

abbrev pub invariant-loop-node : goal.invariant-loop-node
invariant-loop-node l = l.fresh.items ++ filter (λ m. not (is_ended l.self m)) (drop l.node-index l.nodes) ≡ filter (λ m. not (is_ended l.self m)) l.nodes
