use Rattle.rt_scenario.proofs.Prelude.{◌≡◌, ◌∙◌, None, Some, true, is_some, length, refl, subst, sym, rules, list_all, words_in, is_name, script_at, with_select, IsBegun}
use Rattle.rt_scenario.proofs.Cuts.{some_in}
use Rattle.rt_scenario.proofs.Placed.{begun_select}
use Rattle.rt_scenario.proofs.Scripts.{select_some}
use Rattle.rt_scenario.proofs.draft.Draft.select.Goals as goal

pub invariant_of-self-in-Some : goal.invariant_of-self-in-Some
invariant_of-self-in-Some c =
    let closed = c.self.inside.closed in
    let script = c.in-Some.script in
    let names = words_in c.args.args in
    let there : true ≡ is_some c.args.args = search rules in
    let pushed : c.in_ok-with_select-in-Some.field-0 ≡ with_select names script = search rules in
    let here : c.self.inside.current ≡ Some script = search rules in
    let absent : script_at closed script.name ≡ None = search rules in
    let begun : IsBegun (length closed) script = search rules in (
      c.self.invariant.0,
      c.self.invariant.1,
      c.self.invariant.2,
      subst (λ s. script_at closed s.name ≡ None) (sym pushed) absent,
      c.self.invariant.4,
      subst (λ s. IsBegun (length closed) s) (sym pushed) (begun_select (length closed) script names (some_in c.args.args there) begun),
    )

pub returns : goal.returns
returns c =
    let script = c.in-Some.script in
    let names = words_in c.args.args in
    let there : true ≡ is_some c.args.args = search rules in
    let named : list_all is_name names ≡ true = search rules in
    let pushed : c.in_ok-with_select-in-Some.field-0 ≡ with_select names script = search rules in
    let here : c.self.inside.current ≡ Some script = search rules in
    select_some c.args.self.now names (some_in c.args.args there) ∙ rw (named, ← c.self.view_is, here, pushed) refl
