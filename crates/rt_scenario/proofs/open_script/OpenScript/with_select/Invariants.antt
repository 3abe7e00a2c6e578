use Rattle.rt_scenario.proofs.Prelude.{◌≡◌, true, list_all, words_in, is_name, with_choices}
use Rattle.rt_scenario.proofs.Cuts.{left}
use Rattle.rt_scenario.proofs.open_script.OpenScript.with_select.Given as goal

-- the script with the names to come is that with all of them
abbrev pub invariant-loop-rest : goal.invariant-loop-rest
invariant-loop-rest l =
    (list_all is_name (words_in l.rest) ≡ true)
    × (with_choices (words_in l.rest) l.script ≡ with_choices (words_in l.fn.names) l.fn.self)

abbrev pub decreases-loop-rest : goal.decreases-loop-rest
decreases-loop-rest l = left l.rest
