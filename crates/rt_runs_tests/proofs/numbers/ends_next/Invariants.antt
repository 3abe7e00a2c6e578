use Rattle.std.proofs.Common.{length, ◌≡◌}
use Rattle.rt_model.specs.Lists.{or_else}
use Rattle.rt_model.specs.Causes.{ends_next}
use Rattle.rt_runs_tests.proofs.numbers.ends_next.Given as goal

abbrev pub invariant-loop-first : goal.invariant-loop-first
invariant-loop-first l = or_else (ends_next l.rest l.root) l.last ≡ ends_next l.fn.running l.fn.root

abbrev pub decreases-loop-first : goal.decreases-loop-first
decreases-loop-first l = length l.rest
