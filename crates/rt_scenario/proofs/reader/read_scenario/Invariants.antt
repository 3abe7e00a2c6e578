use Rattle.rt_scenario.proofs.Prelude.{◌≡◌, ◌≤◌, ◌+◌, length, lines_of, scenario_of, reading}
use Rattle.rt_scenario.proofs.reader.read_scenario.Given as goal

-- what the lines to come say is what all of them say, and each line has a byte
abbrev pub invariant-loop-rest : goal.invariant-loop-rest
invariant-loop-rest l =
    (reading l.line l.draft (lines_of l.rest) ≡ scenario_of l.fn.bytes)
    × (l.line + length l.rest ≤ length l.fn.bytes + 1)

abbrev pub decreases-loop-rest : goal.decreases-loop-rest
decreases-loop-rest l = length l.rest
