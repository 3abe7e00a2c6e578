use Rattle.rt_machine.proofs.Shuffled.{IsShuffling}
use Rattle.rt_machine.proofs.shuffle.shuffle.Given as goal

abbrev pub invariant-loop-left : goal.invariant-loop-left
invariant-loop-left g l = IsShuffling (g.G.Rng.stream l.fn.rng) (g.G.Rng.stream l.rng) l.fn.journal l.journal l.fn.numbers.items l.numbers.items l.left

abbrev pub decreases-loop-left : goal.decreases-loop-left
decreases-loop-left g l = l.left
