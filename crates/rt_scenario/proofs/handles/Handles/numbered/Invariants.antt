use Rattle.rt_scenario.proofs.Prelude.{◌≡◌, ◌++◌, drop, length, numbered_from}
use Rattle.rt_scenario.proofs.handles.Handles.numbered.Given as goal

abbrev pub invariant-loop-name : goal.invariant-loop-name
invariant-loop-name l =
    (l.numbered.items ++ numbered_from l.name-index (drop l.name-index l.names) ≡ numbered_from 0 l.fn.self)
    × (length l.numbered.items ≡ l.name-index)
    × (l.names ≡ l.fn.self)
