use Rattle.rt_scenario.proofs.Prelude.{◌≡◌, ℕ, List, [], ◌∷◌, length, refl, sym, ap, ◌∙◌, arith, rules, lines_of, reading}
use Rattle.rt_scenario.proofs.reader.read_scenario.Goals as goal

none_left : (text : List ℕ) → length text ≡ 0 → text ≡ []
none_left [] z = refl
none_left (b ∷ bs) z = absurd (omega (arith, z))

pub returns-in-Some-clause-says : goal.returns-in-Some-clause-says
returns-in-Some-clause-says c =
    let none : c.loop-rest.rest.now ≡ [] = none_left c.loop-rest.rest.now (search rules) in
    sym c.loop-rest.invariant.0 ∙ ap (λ text. reading c.loop-rest.line c.loop-rest.draft (lines_of text)) none ∙ c.in-Some.ensures.says c.loop-rest.line
