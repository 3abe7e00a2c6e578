use Rattle.rt_scripts.proofs.Prelude.{◌≡◌, ◌⊎◌, length, last_status}
use Rattle.rt_scripts.proofs.Runs.{last_or}
use Rattle.rt_scripts.proofs.simulate.last_status.Given as goal

abbrev pub invariant-loop-run : goal.invariant-loop-run
invariant-loop-run l = (last_or l.status l.rest ≡ last_status l.fn.runs) × ((l.status ≡ 0) ⊎ (l.status ≡ 6))

abbrev pub decreases-loop-run : goal.decreases-loop-run
decreases-loop-run l = length l.rest
