use Rattle.rt_scenario.proofs.Prelude.{◌≡◌, false, Some, codes, rules, SFits, w64, to_z-of_z, value_of, is_text, step_row, Answers, Plain}
use Rattle.rt_scenario.specs.declared.line.Line.TheVariants.{End}
use Rattle.rt_scenario.proofs.draft.Draft.end.Goals as goal

pub returns-in-Some : goal.returns-in-Some
returns-in-Some c =
    let differs : is_text c.args.word.now (codes "last") ≡ false = search rules in
    let read : value_of c.args.word.now ≡ Some c.in-Some.value = search rules in
    let fits : SFits w64 c.in-Some.value = search rules in
    let pushed : Answers (step_row c.args.self.now (Plain (End c.in-Some.value))) c.push_plain-in-Some.result c.push_plain-in-Some.new.self =
    simp to_z-of_z at c.push_plain-in-Some.ensures in
    rw (differs, read) pushed
