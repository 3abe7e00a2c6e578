use Rattle.rt_scenario.proofs.Prelude.{◌≡◌, ◌≤◌, ◌-◌, ◌∷◌, [], true, codes, drop, take, length, length-drop, arith, rules, take_all, HasBytesAt, words_of, is_name}
use Rattle.rt_scenario.proofs.CommonLines.{spawns_so}
use Rattle.rt_scenario.proofs.common.spawned.Goals as goal

pub returns-in_ok-name_of-in-115-2-clause-line : goal.returns-in_ok-name_of-in-115-2-clause-line
returns-in_ok-name_of-in-115-2-clause-line c d script =
    let text = c.args.text.now in
    let short : length text ≤ 64 = omega (arith, c.if-text-gt-SHORT.false) in
    let long : 6 ≤ length text = omega (arith, c.in-115.len_at_least) in
    let begins : HasBytesAt text 0 (codes "spawn ") = search rules in
    let rest = take (length text - 6) (drop 6 text) in
    let first = c.in_ok-name_of-in-115.field-0.now in
    let second = c.in_ok-name_of-in-115-2.field-0.now in
    let words : words_of rest ≡ first ∷ second ∷ [] = search rules in
    let named : is_name first ≡ true = search rules in
    let known : is_name second ≡ true = search rules in
    spawns_so text rest first second d short long begins (take_all (length text - 6) (drop 6 text) (omega (arith, length-drop 6 text))) words named known script
