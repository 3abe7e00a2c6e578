use Rattle.rt_scenario.proofs.Prelude.{◌≡◌, ◌∷◌, [], ◌++◌, length, map, refl, sym, ap, subst, ◌∙◌, rules, All, HasIndex, name_at, named_by, read, with_name, all_names, handle_of}
use Rattle.rt_scenario.proofs.Indexed.{choices_same, chosen_same, indices_push, lines_more, order_push}
use Rattle.rt_scenario.proofs.open_script.OpenScript.push.Goals as goal

pub invariant_of-self-2 : goal.invariant_of-self-2
invariant_of-self-2 c =
    let names = c.self.inside.handles in
    let more = c.indexed.new.handles in
    let lines = c.self.inside.lines.items in
    let choices = c.self.inside.choices.items in
    let line = c.in_ok-line.line in
    let whole = read c.args.line in
    let taken : more ≡ with_name names (handle_of whole) = search rules in
    let is : named_by more line ≡ whole = search rules in
    let own : HasIndex (length more) line = search rules in
    let pushed : c.push_reserved.new.self.items ≡ lines ++ line ∷ [] = search rules in (
      subst (All (HasIndex (length more))) (sym pushed) (indices_push names more lines choices line whole taken c.self.invariant.0 c.self.invariant.1 own),
      chosen_same names more lines choices line whole taken c.self.invariant.0 c.self.invariant.1,
      ap (λ ls. all_names (map (named_by more) ls) (map (name_at more) choices)) pushed ∙ order_push names more lines choices line whole taken c.self.invariant.0 c.self.invariant.1 is c.self.invariant.2,
    )

pub returns-clause-line : goal.returns-clause-line
returns-clause-line c =
    let names = c.self.inside.handles in
    let more = c.indexed.new.handles in
    let lines = c.self.inside.lines.items in
    let choices = c.self.inside.choices.items in
    let line = c.in_ok-line.line in
    let whole = read c.args.line in
    let taken : more ≡ with_name names (handle_of whole) = search rules in
    let is : named_by more line ≡ whole = search rules in
    let pushed : c.push_reserved.new.self.items ≡ lines ++ line ∷ [] = search rules in
    rw (← c.self.view_is, pushed, lines_more names more lines choices line whole taken c.self.invariant.0 c.self.invariant.1 is, choices_same names more lines choices line whole taken c.self.invariant.0 c.self.invariant.1) refl
