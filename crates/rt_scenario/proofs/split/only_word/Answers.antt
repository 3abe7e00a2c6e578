use Rattle.rt_scenario.proofs.Prelude.{◌≡◌, ◌∷◌, length, arith, ap, ◌∙◌, words_in, words_of}
use Rattle.rt_scenario.proofs.Cuts.{some_words}
use Rattle.rt_scenario.proofs.split.only_word.Goals as goal

pub returns-in_default-Some : goal.returns-in_default-Some
returns-in_default-Some c one =
    let some = some_words c.in_default-Some.field-0-1.now in
    let all : words_in c.args.text ≡ c.split_word.result.0.now ∷ words_of c.in_default-Some.field-0-1.now =
    ap words_in c.in_ok-text.was ∙ c.split_word.ensures.words ∙ ap (λ t. c.split_word.result.0.now ∷ words_in t) c.in_default-Some.is-1 in
    omega (arith, some, one, ap length all)
