use Rattle.rt_scenario.proofs.Prelude.{◌≡◌, list_all, words_in, is_name}
use Rattle.rt_scenario.proofs.Cuts.{left}
use Rattle.rt_scenario.proofs.names.are_names.Given as goal

abbrev pub invariant-loop-rest : goal.invariant-loop-rest
invariant-loop-rest l = list_all is_name (words_in l.rest) ≡ list_all is_name (words_in l.fn.words)

abbrev pub decreases-loop-rest : goal.decreases-loop-rest
decreases-loop-rest l = left l.rest
