use Rattle.rt_scenario.proofs.Prelude.{◌≡◌, ◌++◌, true, list_all, option_map, words_in, is_name, scripts_at}
use Rattle.rt_scenario.proofs.Cuts.{left}
use Rattle.rt_scenario.proofs.draft.Draft.find_all.Given as goal

abbrev pub invariant-loop-rest : goal.invariant-loop-rest
invariant-loop-rest l =
    (list_all is_name (words_in l.rest) ≡ true)
    × (option_map (λ places. l.places.items ++ places) (scripts_at l.fn.self.scripts (words_in l.rest)) ≡ option_map (λ places. l.fn.places.items ++ places) (scripts_at l.fn.self.scripts (words_in l.fn.words)))

abbrev pub decreases-loop-rest : goal.decreases-loop-rest
decreases-loop-rest l = left l.rest
