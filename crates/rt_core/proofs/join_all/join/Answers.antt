use Rattle.rt_core.proofs.Prelude.{◌≡◌, ◌∷◌, [], None, Ok, Err, sym, ap, ◌∙◌, nil_from_length, Clock, kept-kept, goes-on, turned}
use Rattle.rt_core.proofs.Choosing.{still-polling}
use Rattle.rt_core.proofs.Grouping.{joins-none, joins-pending, joins-more, joins-fails, long-joined, lack-failed}
use Rattle.rt_core.proofs.join_all.join.Goals as goal

pub returns-in-Pending-clause-steps : goal.returns-in-Pending-clause-steps
returns-in-Pending-clause-steps g c =
    let time = ap (λ (k : Clock). k.time) c.loop-handle.invariant.kept.clock in
    let is : c.group.inside.handles.items ≡ c.in-Some.handle ∷ c.pop_front.new.self.items = rw c.in-Some.is at c.pop_front.ensures.items in
    let same : c.group.inside.convert ≡ c.args.group.now.convert = rw (← c.group.view_is) at c.loop-handle.invariant.convert in
    let fine : c.group.inside.failure ≡ None = rw (← c.group.view_is) at c.loop-handle.invariant.fine in
    let goes = rw (← c.group.view_is, is) at c.loop-handle.invariant.goes in
    rw (c.push_front_reserved.ensures.items, fine, same) (goes-on _ _ _ _ _ (goes _ _ _ (joins-pending (λ state. g.P.Poller.polls state c.args.world.now.told.state.clock.time c.args.cx.now.task) g.P.Poller.spends _ (g.F.Convert.converted c.args.group.now.convert) _ _ _ _ _ _ (rw c.in-Pending.is at (simp time at c.poll.ensures.steps)))))

pub loop-handle-preserved : goal.loop-handle-preserved
loop-handle-preserved g c =
    let time = ap (λ (k : Clock). k.time) c.loop-handle.invariant.kept.clock in
    let is : c.group.inside.handles.items ≡ c.in-Some.handle ∷ c.pop_front.new.self.items = rw c.in-Some.is at c.pop_front.ensures.items in
    let same : c.group.inside.convert ≡ c.args.group.now.convert = rw (← c.group.view_is) at c.loop-handle.invariant.convert in
    let fine : c.group.inside.failure ≡ None = rw (← c.group.view_is) at c.loop-handle.invariant.fine in
    let goes = rw (← c.group.view_is, is) at c.loop-handle.invariant.goes in
    let into : turned (g.F.Convert.converted c.args.group.now.convert) c.in-Ready.answer ≡ Ok c.in-Ok.value = sym (rw same at c.turned.ensures) ∙ c.in-Ok.is in
    record {
      polling = still-polling _ _ _ (kept-kept _ _ _ c.poll.ensures.kept c.give_up.ensures.kept) c.loop-handle.invariant.polling;
      kept = kept-kept _ _ _ c.loop-handle.invariant.kept (kept-kept _ _ _ c.poll.ensures.kept c.give_up.ensures.kept);
      long = λ e. c.give_up.ensures.lacked ∙ long-joined (g.F.Convert.converted c.args.group.now.convert) c.loop-handle.world c.poll.new.world c.in-Ready.answer c.in-Ok.value (rw c.in-Ready.is at c.poll.ensures.lack) into (c.loop-handle.invariant.long e);
      fine = fine;
      convert = same;
      goes = λ end answer left walked. goes end answer left (joins-more (λ state. g.P.Poller.polls state c.args.world.now.told.state.clock.time c.args.cx.now.task) g.P.Poller.spends _ (g.F.Convert.converted c.args.group.now.convert) _ _ _ _ _ _ _ (rw c.in-Ready.is at (simp time at c.poll.ensures.steps)) _ _ _ _ _ into c.give_up.ensures.steps (rw c.push_reserved.ensures.items at walked));
    }

pub returns-in-Err-clause-kept : goal.returns-in-Err-clause-kept
returns-in-Err-clause-kept g c =
    kept-kept _ _ _ c.loop-handle.invariant.kept (kept-kept _ _ _ c.poll.ensures.kept c.fail.ensures.kept)

pub returns-in-Err-clause-steps : goal.returns-in-Err-clause-steps
returns-in-Err-clause-steps g c =
    let time = ap (λ (k : Clock). k.time) c.loop-handle.invariant.kept.clock in
    let later = ap (λ (k : Clock). k.time) (kept-kept _ _ _ c.loop-handle.invariant.kept c.poll.ensures.kept).clock in
    let is : c.group.inside.handles.items ≡ c.in-Some.handle ∷ c.pop_front.new.self.items = rw c.in-Some.is at c.pop_front.ensures.items in
    let same : c.group.inside.convert ≡ c.args.group.now.convert = rw (← c.group.view_is) at c.loop-handle.invariant.convert in
    let goes = rw (← c.group.view_is, is) at c.loop-handle.invariant.goes in
    let into : turned (g.F.Convert.converted c.args.group.now.convert) c.in-Ready.answer ≡ Err c.in-Err.error = sym (rw same at c.turned.ensures) ∙ c.in-Err.is in
    goes-on _ _ _ _ _ (goes _ _ _ (joins-fails (λ state. g.P.Poller.polls state c.args.world.now.told.state.clock.time c.args.cx.now.task) g.P.Poller.spends _ (g.F.Convert.converted c.args.group.now.convert) _ _ _ _ _ _ _ (rw c.in-Ready.is at (simp time at c.poll.ensures.steps)) _ _ _ _ into (rw same at (simp later at c.fail.ensures.steps))))

pub returns-in-Err-clause-lack : goal.returns-in-Err-clause-lack
returns-in-Err-clause-lack g c = λ long lacked.
    let same : c.group.inside.convert ≡ c.args.group.now.convert = rw (← c.group.view_is) at c.loop-handle.invariant.convert in
    let into : turned (g.F.Convert.converted c.args.group.now.convert) c.in-Ready.answer ≡ Err c.in-Err.error = sym (rw same at c.turned.ensures) ∙ c.in-Err.is in
    lack-failed (g.F.Convert.converted c.args.group.now.convert) c.loop-handle.world c.poll.new.world c.in-Ready.answer c.fail.new.world c.fail.result c.in-Err.error (rw c.in-Ready.is at c.poll.ensures.lack) into c.fail.ensures.lack c.fail.ensures.ends (c.loop-handle.invariant.long long) lacked

pub returns-clause-steps : goal.returns-clause-steps
returns-clause-steps g c =
    let ended = rw c.in_default.is at c.pop_front.ensures.cases in
    let none : c.group.inside.handles.items ≡ [] = nil_from_length c.group.inside.handles.items (sym c.group.inside.handles.ok.0 ∙ ended.0) in
    let same : c.group.inside.convert ≡ c.args.group.now.convert = rw (← c.group.view_is) at c.loop-handle.invariant.convert in
    let goes = rw (← c.group.view_is, none) at c.loop-handle.invariant.goes in
    rw (c.take_outputs.ensures.outputs, c.take_outputs.ensures.closed, same) (goes-on _ _ _ _ _ (goes _ _ _ (joins-none (λ state. g.P.Poller.polls state c.args.world.now.told.state.clock.time c.args.cx.now.task) g.P.Poller.spends _ (g.F.Convert.converted c.args.group.now.convert) _ _)))
