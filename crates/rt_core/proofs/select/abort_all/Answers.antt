use Rattle.rt_core.proofs.Prelude.{◌≡◌, ◌<◌, ◌≤◌, refl, sym, ap, ◌∙◌, arith, length, get_or, drop_all, kept-same, kept-kept, calling-kept, aborted}
use Rattle.rt_core.proofs.Choosing.{changed, changed-none, changed-all, changed-length, changed-next, changed-rest, each-more, each-done}
use Rattle.rt_core.proofs.select.abort_all.Goals as goal

pub loop-place-init : goal.loop-place-init
loop-place-init g c = record {
  handles = sym (changed-none aborted c.args.handles.now);
  calling = c.requires;
  kept = kept-same _ _;
  lacked = refl;
  goes = λ end spent. spent;
}

pub loop-place-preserved : goal.loop-place-preserved
loop-place-preserved g c =
    let is = c.loop-place.invariant.handles in
    let h = c.index-handles-place.result in
    let within : c.loop-place.place < length c.args.handles.now = omega (arith, c.loop-place-test.true, c.loop-place.auto.handles) in
    let there : h ≡ get_or (changed aborted c.loop-place.place c.args.handles.now) c.loop-place.place h = rw is at c.index-handles-place.is in
    record {
      handles = rw is (changed-next aborted c.loop-place.place c.args.handles.now h c.abort.new.self within there (c.abort.ensures.handle ∙ ap aborted (sym c.index-handles-place.is)));
      calling = calling-kept _ _ c.abort.ensures.kept c.loop-place.invariant.calling;
      kept = kept-kept _ _ _ c.loop-place.invariant.kept c.abort.ensures.kept;
      lacked = c.abort.ensures.lacked ∙ c.loop-place.invariant.lacked;
      goes = each-more _ _ _ _ _ _ _ _ (changed-rest aborted c.loop-place.place c.args.handles.now h within there) (rw (← c.index-handles-place.is) at c.abort.ensures.steps) c.loop-place.invariant.goes;
    }

pub returns-clause-handles : goal.returns-clause-handles
returns-clause-handles g c =
    let is = c.loop-place.invariant.handles in
    let all : length c.loop-place.handles ≡ length c.args.handles.now = ap length is ∙ changed-length aborted c.loop-place.place c.args.handles.now in
    let past : length c.args.handles.now ≤ c.loop-place.place = omega (arith, c.loop-place-test.false, all) in
    is ∙ changed-all aborted c.loop-place.place c.args.handles.now past

pub returns-clause-steps : goal.returns-clause-steps
returns-clause-steps g c =
    let is = c.loop-place.invariant.handles in
    let all : length c.loop-place.handles ≡ length c.args.handles.now = ap length is ∙ changed-length aborted c.loop-place.place c.args.handles.now in
    let past : length c.args.handles.now ≤ c.loop-place.place = omega (arith, c.loop-place-test.false, all) in
    each-done _ _ _ _ _ (drop_all c.loop-place.place c.args.handles.now past) c.loop-place.invariant.goes
