use Rattle.rt_core.proofs.Prelude.{◌≡◌, ◌∙◌, arith, length, nil_from_length, into_iter_items, kept-kept, calling-kept}
use Rattle.rt_core.proofs.Choosing.{each-more, each-done}
use Rattle.rt_core.proofs.handle.HandleOf.give_all_up.Goals as goal

pub loop-handle-preserved : goal.loop-handle-preserved
loop-handle-preserved g c = record {
  calling = calling-kept _ _ c.give_up.ensures.kept c.loop-handle.invariant.calling;
  kept = kept-kept _ _ _ c.loop-handle.invariant.kept c.give_up.ensures.kept;
  lacked = c.give_up.ensures.lacked ∙ c.loop-handle.invariant.lacked;
  goes = each-more _ _ _ _ _ _ _ _ (rw c.in-Some.is at c.next.ensures.items) c.give_up.ensures.steps c.loop-handle.invariant.goes;
}

pub returns-clause-steps : goal.returns-clause-steps
returns-clause-steps g c =
    let none : length (into_iter_items c.loop-handle.rest) ≡ 0 =
    let ended = rw c.in_default.is at c.next.ensures.cases in omega (arith, ended.0, c.loop-handle.rest.rest.ok)
    in
    each-done _ _ _ _ _ (nil_from_length (into_iter_items c.loop-handle.rest) none) c.loop-handle.invariant.goes
