use Rattle.rt_core.proofs.Prelude.{◌≡◌, ◌∙◌, arith, length, nil_from_length, into_iter_items, kept-kept, calling-kept}
use Rattle.rt_core.proofs.Choosing.{each-more, each-done}
use Rattle.rt_core.proofs.abort_on_drop.AbortOnDropOf.give_all_up.Goals as goal

pub loop-guard-preserved : goal.loop-guard-preserved
loop-guard-preserved g c = record {
  calling = calling-kept _ _ c.give_up.ensures.kept c.loop-guard.invariant.calling;
  kept = kept-kept _ _ _ c.loop-guard.invariant.kept c.give_up.ensures.kept;
  lacked = c.give_up.ensures.lacked ∙ c.loop-guard.invariant.lacked;
  goes = each-more _ _ _ _ _ _ _ _ (rw c.in-Some.is at c.next.ensures.items) c.give_up.ensures.steps c.loop-guard.invariant.goes;
}

pub returns-clause-steps : goal.returns-clause-steps
returns-clause-steps g c =
    let none : length (into_iter_items c.loop-guard.rest) ≡ 0 =
    let ended = rw c.in_default.is at c.next.ensures.cases in omega (arith, ended.0, c.loop-guard.rest.rest.ok)
    in
    each-done _ _ _ _ _ (nil_from_length (into_iter_items c.loop-guard.rest) none) c.loop-guard.invariant.goes
