use Rattle.rt_scenario.proofs.Prelude.{◌≤◌, ◌-◌, ◌∙◌, codes, drop, length, length-drop, arith, rules, sym, SFits, w64, to_z-of_z, take_all, HasBytesAt}
use Rattle.rt_scenario.proofs.CommonLines.{ends_so}
use Rattle.rt_scenario.proofs.common.end_line.Goals as goal

pub returns-in_ok-value_of-in-101-clause-line : goal.returns-in_ok-value_of-in-101-clause-line
returns-in_ok-value_of-in-101-clause-line c d script =
    let text = c.args.text.now in
    let value = c.in_ok-value_of-in-101.field-0 in
    let long : 4 ≤ length text = omega (arith, c.in-101.len_at_least) in
    let begins : HasBytesAt text 0 (codes "end ") = search rules in
    let fits : SFits w64 value = search rules in
    let read = sym c.value_of.ensures ∙ c.in_ok-value_of-in-101.was in
    rw (to_z-of_z) (ends_so text _ value d c.requires long begins (take_all (length text - 4) (drop 4 text) (omega (arith, length-drop 4 text))) read script)
