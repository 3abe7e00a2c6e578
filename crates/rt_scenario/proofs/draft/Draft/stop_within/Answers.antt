use Rattle.rt_scenario.proofs.Prelude.{◌≡◌, Some, rules, SFits, w32, to_z-of_z, number_of, small_value_of, step_row, Answers, StopWithin, Plain}
use Rattle.rt_scenario.proofs.draft.Draft.stop_within.Goals as goal

pub returns-in-Some-Some : goal.returns-in-Some-Some
returns-in-Some-Some c =
    let value = c.in-Some-Some.value in
    let limit = c.in-Some-Some.limit in
    let read : small_value_of c.args.value.now ≡ Some value = search rules in
    let limited : number_of c.args.limit.now ≡ Some limit = search rules in
    let fits : SFits w32 value = search rules in
    let pushed : Answers (step_row c.args.self.now (Plain (StopWithin value limit))) c.push_plain.result c.push_plain.new.self =
    simp to_z-of_z at c.push_plain.ensures in
    rw (read, limited) pushed
