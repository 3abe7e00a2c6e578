use Rattle.rt_scripts.proofs.Prelude.{◌≡◌, ◌≤◌, ◌+◌, All, length, vec_len, vec_capacity, rounds_in, HasScripts}
use Rattle.rt_scripts.proofs.Runs.{GoesFrom}
use Rattle.rt_scripts.proofs.simulate.run_lines.Given as goal

abbrev pub invariant-loop-line : goal.invariant-loop-line
invariant-loop-line l = record {
  place : l.place ≡ length l.runner.given;
  rounds : l.rounds ≡ rounds_in l.runner.given;
  goes : GoesFrom l.fn.program l.fn.first l.fn.lines l.runner l.rest l.runs.items l.runner.given;
  places : length l.rest + vec_len l.runs ≤ vec_capacity l.runs;
  lines : All (HasScripts l.fn.program) l.rest;
}

abbrev pub decreases-loop-line : goal.decreases-loop-line
decreases-loop-line l = length l.rest
