use Rattle.rt_scenario.proofs.Prelude.{◌≡◌, ℕ, List, ◌∷◌, [], ◌++◌, length, map, refl, sym, ap, subst, ◌∙◌, rules, All, HasIndex, name_at, named_by, all_names, Line, NamedLine, Plain}
use Rattle.rt_scenario.specs.declared.line.Line.TheVariants.{Panic}
use Rattle.rt_scenario.proofs.Indexed.{indices_push, order_push}
use Rattle.rt_scenario.proofs.open_script.OpenScript.push_panic.Goals as goal

pub invariant_of-self-2 : goal.invariant_of-self-2
invariant_of-self-2 c =
    let names = c.self.inside.handles in
    let lines = c.self.inside.lines.items in
    let choices = c.self.inside.choices.items in
    let line : Line = Panic c.len.result in
    let whole : NamedLine (List ℕ) = Plain (Panic c.len.result) in
    let pushed : c.push_reserved.new.self.items ≡ lines ++ line ∷ [] = search rules in (
      subst (All (HasIndex (length names))) (sym pushed) (indices_push names names lines choices line whole refl c.self.invariant.0 c.self.invariant.1 tt),
      c.self.invariant.1,
      ap (λ ls. all_names (map (named_by names) ls) (map (name_at names) choices)) pushed ∙ order_push names names lines choices line whole refl c.self.invariant.0 c.self.invariant.1 refl c.self.invariant.2,
    )
