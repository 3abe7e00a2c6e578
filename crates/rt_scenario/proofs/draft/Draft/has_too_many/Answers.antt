use Rattle.rt_scenario.proofs.Prelude.{◌≡◌, nat_lt, ap, ◌∙◌, tasks_at, tasks_of, capped, capped_tasks}
use Rattle.rt_scenario.proofs.Totals.{total_past}
use Rattle.rt_scenario.proofs.draft.Draft.has_too_many.Goals as goal

pub returns : goal.returns
returns c =
    let scripts = c.self.inside.closed in
    let places = c.args.places.now in
    let total : c.tasks_at.result ≡ capped (tasks_at (capped_tasks scripts) places) =
    c.tasks_at.ensures ∙ ap (λ tasks. capped (tasks_at tasks places)) (c.as_slice.ensures.value ∙ c.self.invariant.1) in
    ap (nat_lt 100000) total ∙ total_past scripts places ∙ ap (λ d. nat_lt 100000 (tasks_at (tasks_of d.scripts) places)) c.self.view_is
