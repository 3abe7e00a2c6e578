use Rattle.rt_scenario.proofs.Prelude.{◌≡◌, ◌++◌, map, take, drop, placed_at}
use Rattle.rt_scenario.proofs.open_script.place_lines.Given as goal

abbrev pub invariant-loop-line : goal.invariant-loop-line
invariant-loop-line l = l.lines ≡ map (placed_at l.fn.places) (take l.line-index l.fn.lines) ++ drop l.line-index l.fn.lines
