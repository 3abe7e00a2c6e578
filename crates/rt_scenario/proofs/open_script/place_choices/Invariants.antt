use Rattle.rt_scenario.proofs.Prelude.{◌≡◌, ◌++◌, map, take, drop, slice_index}
use Rattle.rt_scenario.proofs.open_script.place_choices.Given as goal

abbrev pub invariant-loop-choice : goal.invariant-loop-choice
invariant-loop-choice l = l.choices ≡ map (slice_index l.fn.places) (take l.choice-index l.fn.choices) ++ drop l.choice-index l.fn.choices
