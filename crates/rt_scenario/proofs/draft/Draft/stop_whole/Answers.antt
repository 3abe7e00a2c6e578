use Rattle.rt_scenario.proofs.Prelude.{◌≡◌, Some, rules, SFits, w32, to_z-of_z, small_value_of, step_row, Answers, Plain}
use Rattle.rt_scenario.specs.declared.line.Line.TheVariants.{Stop}
use Rattle.rt_scenario.proofs.draft.Draft.stop_whole.Goals as goal

pub returns-in-Some : goal.returns-in-Some
returns-in-Some c =
    let read : small_value_of c.args.value.now ≡ Some c.in-Some.value = search rules in
    let fits : SFits w32 c.in-Some.value = search rules in
    let pushed : Answers (step_row c.args.self.now (Plain (Stop c.in-Some.value))) c.push_plain.result c.push_plain.new.self =
    simp to_z-of_z at c.push_plain.ensures in
    rw read pushed
