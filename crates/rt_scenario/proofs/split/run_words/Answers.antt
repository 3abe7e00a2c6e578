use Rattle.rt_scenario.proofs.Prelude.{◌≡◌, ◌∷◌, rules, words_in}
use Rattle.rt_scenario.proofs.Cuts.{run_named, some_in}
use Rattle.rt_scenario.proofs.split.run_words.Goals as goal

pub returns-then-eq : goal.returns-then-eq
returns-then-eq c =
    let all : words_in c.args.text ≡ c.split_word.result.0.now ∷ c.split_word-2.result.0.now ∷ words_in c.split_word-2.result.1 = search rules in
    run_named _ _ _ _ all (search rules) (some_in _ c.if-is_some.ensures)
