use Rattle.rt_walk.proofs.Prelude.{length, ◌≡◌, or_else, ends_next}
use Rattle.rt_walk.proofs.running.Running.ends_next.Given as goal

abbrev pub invariant-loop-first : goal.invariant-loop-first
invariant-loop-first l = or_else (ends_next l.rest l.root) l.last ≡ ends_next l.fn.self l.fn.root

abbrev pub decreases-loop-first : goal.decreases-loop-first
decreases-loop-first l = length l.rest
