use Rattle.rt_core.proofs.Prelude.{◌≡◌, ◌<◌, ◌≤◌, refl, ap, arith, length, [], nil_from_length, Clock, kept-kept}
use Rattle.rt_core.proofs.Choosing.{select-none, select-more, select-ready, undecided-some, still-long, still-polling}
use Rattle.rt_core.proofs.select.SelectOfOutputPollerOutput.poll.Goals as goal

pub loop-place-preserved : goal.loop-place-preserved
loop-place-preserved g c =
    let time = ap (λ (k : Clock). k.time) c.loop-place.invariant.kept.clock in
    let within : c.loop-place.place < length c.loop-place.self-inside.handles.items = omega (arith, c.loop-place-test.true, c.len.ensures, c.loop-place.self-inside.handles.ok) in
    record {
      polling = still-polling _ _ _ c.poll.ensures.kept c.loop-place.invariant.polling;
      kept = kept-kept _ _ _ c.loop-place.invariant.kept c.poll.ensures.kept;
      long = λ e. still-long c.loop-place.world c.poll.new.world c.poll.result c.poll.ensures.lack c.in-Pending.is (c.loop-place.invariant.long e);
      goes = select-more (λ state. g.P.Poller.polls state c.args.world.now.told.state.clock.time c.args.cx.now.task) g.P.Poller.spends _ _ _ _ _ c.loop-place.invariant.goes _ c.index_mut.result.now c.poll.new.self within c.index_mut.ensures.value (rw c.in-Pending.is at (simp time at c.poll.ensures.steps));
    }

pub returns-in-Ready-clause-kept : goal.returns-in-Ready-clause-kept
returns-in-Ready-clause-kept g c =
    kept-kept _ _ _ (kept-kept _ _ _ c.loop-place.invariant.kept c.poll.ensures.kept) c.let_go.ensures.kept

pub returns-in-Ready-clause-steps : goal.returns-in-Ready-clause-steps
returns-in-Ready-clause-steps g c =
    let time = ap (λ (k : Clock). k.time) c.loop-place.invariant.kept.clock in
    let within : c.loop-place.place < length c.loop-place.self-inside.handles.items = omega (arith, c.loop-place-test.true, c.len.ensures, c.loop-place.self-inside.handles.ok) in
    let none : c.replace-handles.new.dest.items ≡ [] = rw c.replace-handles.ensures.after c.new-none.ensures.items in
    rw none (select-ready (λ state. g.P.Poller.polls state c.args.world.now.told.state.clock.time c.args.cx.now.task) g.P.Poller.spends _ _ _ _ _ c.loop-place.invariant.goes _ c.index_mut.result.now c.poll.new.self within c.index_mut.ensures.value _ _ _ (rw c.in-Ready.is at (simp time at c.poll.ensures.steps)) (rw c.replace-handles.ensures.value refl) c.let_go.ensures.steps)

pub returns-then-is_empty-clause-steps : goal.returns-then-is_empty-clause-steps
returns-then-is_empty-clause-steps g c =
    let past : length c.loop-place.self-inside.handles.items ≤ c.loop-place.place = omega (arith, c.loop-place-test.false, c.len.ensures, c.loop-place.self-inside.handles.ok) in
    let none : length c.loop-place.self-inside.handles.items ≡ 0 = grind (arith, c.if-is_empty.true, c.is_empty.ensures, c.loop-place.self-inside.handles.ok) in
    select-none _ _ _ _ _ _ _ c.loop-place.invariant.goes _ past (rw (nil_from_length c.loop-place.self-inside.handles.items none) refl)

pub returns-clause-steps : goal.returns-clause-steps
returns-clause-steps g c =
    let past : length c.loop-place.self-inside.handles.items ≤ c.loop-place.place = omega (arith, c.loop-place-test.false, c.len.ensures, c.loop-place.self-inside.handles.ok) in
    let some : 0 < length c.loop-place.self-inside.handles.items = grind (arith, c.if-is_empty.false, c.is_empty.ensures, c.loop-place.self-inside.handles.ok) in
    select-none _ _ _ _ _ _ _ c.loop-place.invariant.goes _ past (undecided-some c.loop-place.self-inside.handles.items some)
