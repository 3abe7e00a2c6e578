use Rattle.rt_scenario.proofs.Prelude.{◌≡◌, ◌+◌, None, ◌++◌, ◌∷◌, [], length, sym, ap, subst, ◌∙◌, rules, All, IfSome, insert_last, capped, capped_tasks, CanRunLine, script_at, Begun, tasks_at, spawned_in, is_text, HasPlaces, HavePlaces, IsBegun}
use Rattle.rt_scenario.proofs.Placed.{have_push}
use Rattle.rt_scenario.proofs.Scripts.{can_run_lines, name_more}
use Rattle.rt_scenario.proofs.Totals.{capped_push}
use Rattle.rt_scenario.proofs.draft.Draft.declare.Goals as goal

pub invariant_of-self-2 : goal.invariant_of-self-2
invariant_of-self-2 c =
    let closed = c.self.inside.closed in
    let script = c.args.script in
    let lines = script.lines in
    let pushed : c.push.new.self ≡ closed ++ script ∷ [] = search rules in
    let kept : c.reserve-2.new.self.keys ≡ c.self.inside.names.keys = search rules in
    let absent : script_at closed script.name ≡ None = ap (λ d. script_at d.scripts script.name) c.self.view_is ∙ c.requires.absent in
    let own : c.tasks_of-tasks.result ≡ capped (1 + tasks_at (capped_tasks closed) (spawned_in lines)) =
    c.tasks_of-tasks.ensures
    ∙ ap (λ ls. capped (1 + tasks_at c.as_slice.result.now (spawned_in ls))) c.as_slice-2.ensures
    ∙ ap (λ ts. capped (1 + tasks_at ts (spawned_in lines))) (c.as_slice.ensures.value ∙ c.self.invariant.1) in
    let none : c.self.inside.current ≡ None = ap (λ d. d.current) c.self.view_is ∙ c.requires.between in (
      rw pushed
          (c.in-Ok.ensures.keys
          ∙ ap (λ names. insert_last is_text names c.copy-name.result) kept
          ∙ ap (insert_last is_text c.self.inside.names.keys) c.copy-name.ensures
          ∙ name_more c.self.inside.names.keys closed script c.self.invariant.0 absent),
      (c.push_reserved.ensures.items
          ∙ ap (λ l. l ++ c.tasks_of-tasks.result ∷ []) (c.in_ok-reserve.ensures.items ∙ c.self.invariant.1)
          ∙ ap (λ n. capped_tasks closed ++ n ∷ []) own
          ∙ sym (capped_push closed script)
          ∙ ap capped_tasks (sym pushed)),
      subst (λ l. All (CanRunLine l c.self.inside.settings) c.self.inside.runs.items) (sym pushed) (can_run_lines closed script c.self.inside.settings c.self.inside.runs.items c.self.invariant.2),
      subst (λ o. IfSome o (λ (s : Begun). script_at c.push.new.self s.name ≡ None)) (sym none) tt,
      subst HavePlaces (sym pushed) (have_push closed script c.self.invariant.4 (subst (λ d. HasPlaces (length d.scripts) script) (sym c.self.view_is) c.requires.places)),
      subst (λ o. IfSome o (IsBegun (length c.push.new.self))) (sym none) tt,
    )

pub invariant_of-self-in_err-self-inside : goal.invariant_of-self-in_err-self-inside
invariant_of-self-in_err-self-inside c =
    let kept : c.reserve-2.new.self.keys ≡ c.self.inside.names.keys = search rules in
    let same : c.push.new.self ≡ c.self.inside.closed = search rules in
    rw (kept, same, c.reserve.ensures.items) c.self.invariant
