use Rattle.rt_scenario.proofs.Prelude.{◌≤◌, ◌-◌, ◌∙◌, codes, drop, length, length-drop, arith, rules, sym, take_all, HasBytesAt}
use Rattle.rt_scenario.proofs.CommonLines.{sleeps_so}
use Rattle.rt_scenario.proofs.common.common_line.Goals as goal

pub returns-in_ok-number_of-in-115-clause-line : goal.returns-in_ok-number_of-in-115-clause-line
returns-in_ok-number_of-in-115-clause-line c d script =
    let text = c.args.text.now in
    let short : length text ≤ 64 = omega (arith, c.if-text-gt-SHORT.false) in
    let long : 6 ≤ length text = omega (arith, c.in-115.len_at_least) in
    let begins : HasBytesAt text 0 (codes "sleep ") = search rules in
    let read = sym c.number_of.ensures ∙ c.in_ok-number_of-in-115.was in
    sleeps_so text _ c.in_ok-number_of-in-115.field-0 d short long begins (take_all (length text - 6) (drop 6 text) (omega (arith, length-drop 6 text))) read script
