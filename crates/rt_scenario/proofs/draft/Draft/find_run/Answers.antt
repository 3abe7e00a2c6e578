use Rattle.rt_scenario.proofs.Prelude.{◌≡◌, Some, ◌++◌, ◌∷◌, [], rules, option_map, words_in, script_at, scripts_at}
use Rattle.rt_scenario.proofs.Scripts.{run_found, scripts_at_bound, some_found}
use Rattle.rt_scenario.proofs.draft.Draft.find_run.Goals as goal

pub returns-clause-there : goal.returns-clause-there
returns-clause-there c =
    let scripts = c.args.self.now.scripts in
    let root = c.args.root.now in
    let words = words_in c.args.with in
    let place = c.in_ok-find.field-0 in
    let places = c.find_all.new.places.items in
    let here : script_at scripts root ≡ Some place = search rules in
    let more : option_map (λ ps. (place ∷ []) ++ ps) (scripts_at scripts words) ≡ Some places = search rules in
    scripts_at_bound scripts (root ∷ words) places (run_found scripts root words place places here more)

pub returns-clause-some : goal.returns-clause-some
returns-clause-some c =
    let more : option_map (λ ps. (c.in_ok-find.field-0 ∷ []) ++ ps) (scripts_at c.args.self.now.scripts (words_in c.args.with)) ≡ Some c.find_all.new.places.items = search rules in
    some_found _ _ _ more
