use Rattle.rt_scenario.proofs.Prelude.{◌≡◌, ◌<◌, ◌∷◌, [], ◌++◌, Some, length, map, refl, sym, ap, subst, ◌∙◌, rules, All, name_at, named_by, with_name, all_names}
use Rattle.rt_scenario.proofs.Indexed.{choices_more, chosen_push, indices_same, lines_same, order_choice}
use Rattle.rt_scenario.proofs.open_script.OpenScript.push_choice.Goals as goal

pub invariant_of-self-2 : goal.invariant_of-self-2
invariant_of-self-2 c =
    let names = c.self.inside.handles in
    let more = c.index_of.new.self in
    let lines = c.self.inside.lines.items in
    let choices = c.self.inside.choices.items in
    let index = c.in_ok-index.index in
    let name = c.args.name.now in
    let taken : more ≡ with_name names (Some name) = search rules in
    let is : name_at more index ≡ name = search rules in
    let own : index < length more = search rules in
    let pushed : c.push_reserved.new.self.items ≡ choices ++ index ∷ [] = search rules in (
      indices_same names more lines choices index name taken c.self.invariant.0 c.self.invariant.1 is,
      subst (All (λ i. i < length more)) (sym pushed) (chosen_push names more lines choices index name taken c.self.invariant.0 c.self.invariant.1 is own),
      ap (λ cs. all_names (map (named_by more) lines) (map (name_at more) cs)) pushed ∙ order_choice names more lines choices index name taken c.self.invariant.0 c.self.invariant.1 is c.self.invariant.2,
    )

pub returns : goal.returns
returns c =
    let names = c.self.inside.handles in
    let more = c.index_of.new.self in
    let lines = c.self.inside.lines.items in
    let choices = c.self.inside.choices.items in
    let index = c.in_ok-index.index in
    let name = c.args.name.now in
    let taken : more ≡ with_name names (Some name) = search rules in
    let is : name_at more index ≡ name = search rules in
    let pushed : c.push_reserved.new.self.items ≡ choices ++ index ∷ [] = search rules in
    rw (← c.self.view_is, pushed, lines_same names more lines choices index name taken c.self.invariant.0 c.self.invariant.1 is, choices_more names more lines choices index name taken c.self.invariant.0 c.self.invariant.1 is) refl
