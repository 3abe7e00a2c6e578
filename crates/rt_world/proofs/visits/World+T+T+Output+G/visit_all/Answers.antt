use Rattle.rt_world.proofs.Prelude.{◌∙◌, sym}
use Rattle.rt_world.proofs.Running.{passes-passes, left-visited, left-passed}
use Rattle.rt_world.proofs.visits.World+T+T+Output+G.visit_all.Goals as goal
use Rattle.rt_world.proofs.visits.World+T+T+Output+G.visit_all.Goals.{then-runs+in-Ok-None+in-Ok-visit-3+in-Some-1, then-runs+in-Ok-None+in-Ok-visit-3+in-None-1, then-runs+in-Ok-None+in-Err-1, else-runs}

pub loop-place-preserved : goal.loop-place-preserved
loop-place-preserved g c =
    let i = c.loop-place.invariant in
    let s = c.loop-place.self.told.state in
    let same = c.touch_ahead.ensures in
    let runs = rw same at c.runs.ensures in
    elim c.if-runs.branch [
      | then-runs+in-Ok-None+in-Ok-visit-3+in-Some-1 w ↦ let is = rw w.in-Ok-None.field-0-is at w.in-Ok-None.is in let left = left-visited s c.args.order.now c.loop-place.place c.loop-place-test.true i.left w.visit.new.self.told.state (sym runs ∙ w.if-runs.true) (rw (is, same) at w.visit.ensures.stands) in rw w.self-is record { passes = passes-passes _ _ _ _ i.passes (rw same at w.visit.ensures.passes); phase = left.0; left = left.1; unmarked = rw is at w.visit.ensures.unmarked; agrees = λ first f. (rw (is, same) at w.visit.ensures.agrees first) (i.agrees first f) }
      | then-runs+in-Ok-None+in-Ok-visit-3+in-None-1 w ↦ let is = rw w.in-Ok-None.field-0-is at w.in-Ok-None.is in let left = left-visited s c.args.order.now c.loop-place.place c.loop-place-test.true i.left w.visit.new.self.told.state (sym runs ∙ w.if-runs.true) (rw (is, same) at w.visit.ensures.stands) in rw w.self-is record { passes = passes-passes _ _ _ _ i.passes (rw same at w.visit.ensures.passes); phase = left.0; left = left.1; unmarked = rw is at w.visit.ensures.unmarked; agrees = λ first f. (rw (is, same) at w.visit.ensures.agrees first) (i.agrees first f) }
      | then-runs+in-Ok-None+in-Err-1 w ↦ let is = rw w.in-Ok-None.field-0-is at w.in-Ok-None.is in let left = left-visited s c.args.order.now c.loop-place.place c.loop-place-test.true i.left w.visit.new.self.told.state (sym runs ∙ w.if-runs.true) (rw (is, same) at w.visit.ensures.stands) in rw w.self-is record { passes = passes-passes _ _ _ _ i.passes (rw same at w.visit.ensures.passes); phase = left.0; left = left.1; unmarked = rw is at w.visit.ensures.unmarked; agrees = λ first f. (rw (is, same) at w.visit.ensures.agrees first) (i.agrees first f) }
      | else-runs w ↦ rw (w.self-is, same) record { passes = i.passes; phase = i.phase; left = left-passed s c.args.order.now c.loop-place.place c.loop-place-test.true i.left (sym runs ∙ w.if-runs.false); unmarked = i.unmarked; agrees = i.agrees }
    ]
