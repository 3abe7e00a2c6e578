use Rattle.rt_walk.proofs.Prelude.{◌≡◌, ◌++◌, length, reverse, flat_map, links, subtree}
use Rattle.rt_walk.proofs.below.subtree.Given as goal

abbrev pub invariant-loop-next : goal.invariant-loop-next
invariant-loop-next l = l.numbers.items ++ flat_map (subtree (links l.nodes)) (reverse l.pending.items) ≡ subtree (links l.nodes) l.node

abbrev pub decreases-loop-next : goal.decreases-loop-next
decreases-loop-next l = length (flat_map (subtree (links l.nodes)) (reverse l.pending.items))
