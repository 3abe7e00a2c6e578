use Rattle.rt_scenario.proofs.Prelude.{◌≡◌, ◌≤◌, ◌-◌, ◌∙◌, codes, drop, length, length-drop, subst, sym, arith, rules, true, take_all, HasBytesAt, is_name}
use Rattle.rt_scenario.proofs.CommonLines.{opens_so, where_some}
use Rattle.rt_scenario.proofs.common.opened.Goals as goal

pub returns-in-115-clause-name : goal.returns-in-115-clause-name
returns-in-115-clause-name c = where_some c.name_of.result _ _ _ (λ name is. subst (λ word. is_name word ≡ true) (sym is.1) is.0) c.name_of.ensures.name

pub returns-in-115-clause-line : goal.returns-in-115-clause-line
returns-in-115-clause-line c =
    let text = c.args.text.now in
    let long : 7 ≤ length text = omega (arith, c.in-115.len_at_least) in
    let begins : HasBytesAt text 0 (codes "script ") = search rules in
    where_some c.name_of.result _ _ _
    (λ name is d between. opens_so text name.now d long begins (is.1 ∙ take_all (length text - 7) (drop 7 text) (omega (arith, length-drop 7 text))) (subst (λ word. is_name word ≡ true) (sym is.1) is.0) between)
    c.name_of.ensures.name
