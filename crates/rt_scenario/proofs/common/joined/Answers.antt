use Rattle.rt_scenario.proofs.Prelude.{◌≡◌, ◌≤◌, ◌-◌, ◌∙◌, codes, drop, length, length-drop, subst, sym, arith, rules, true, take_all, HasBytesAt, is_name}
use Rattle.rt_scenario.proofs.CommonLines.{joins_so, where_some}
use Rattle.rt_scenario.proofs.common.joined.Goals as goal

pub returns-in-106-clause-line : goal.returns-in-106-clause-line
returns-in-106-clause-line c =
    let text = c.args.text.now in
    let long : 5 ≤ length text = omega (arith, c.in-106.len_at_least) in
    let begins : HasBytesAt text 0 (codes "join ") = search rules in
    where_some c.name_of.result _ _ _
    (λ name is d script. joins_so text name.now d long begins (is.1 ∙ take_all (length text - 5) (drop 5 text) (omega (arith, length-drop 5 text))) (subst (λ word. is_name word ≡ true) (sym is.1) is.0) script)
    c.name_of.ensures.name
