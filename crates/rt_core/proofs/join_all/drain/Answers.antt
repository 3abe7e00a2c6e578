use Rattle.rt_core.proofs.Prelude.{◌≡◌, ◌≤◌, ◌∷◌, [], false, refl, sym, ap, ◌∙◌, arith, length, length-append, take_all, drop_all, Clock, kept-same, kept-kept, goes-on, lacks}
use Rattle.rt_core.proofs.Choosing.{still-long, still-polling}
use Rattle.rt_core.proofs.Grouping.{drains-none, round-pending, round-next, round-lacks, long-drained}
use Rattle.rt_core.proofs.join_all.drain.Goals.{in-Pending, in-Ready+else-ends}
use Rattle.rt_core.proofs.join_all.drain.Goals as goal

pub loop-left-init : goal.loop-left-init
loop-left-init g c =
    let all : c.len-left.result ≡ length c.args.group.now.handles = rw (← c.group.view_is) (c.len-left.ensures ∙ c.group.inside.handles.ok.0) in
    record {
      polling = c.requires.polling;
      kept = kept-same _ _;
      long = λ e. e;
      within = omega (arith, all);
      convert = refl;
      goes = λ end answer left walked. rw (drop_all c.len-left.result c.args.group.now.handles (omega (arith, all)), take_all c.len-left.result c.args.group.now.handles (omega (arith, all))) at walked;
    }

pub returns-then-ends-clause-kept : goal.returns-then-ends-clause-kept
returns-then-ends-clause-kept g c =
    kept-kept _ _ _ (kept-kept _ _ _ c.loop-left.invariant.kept c.poll.ensures.kept) (kept-kept _ _ _ c.give_up.ensures.kept c.end.ensures.kept)

pub returns-then-ends-clause-steps : goal.returns-then-ends-clause-steps
returns-then-ends-clause-steps g c =
    let time = ap (λ (k : Clock). k.time) c.loop-left.invariant.kept.clock in
    let is : c.loop-left.group.handles ≡ c.in-Some.handle ∷ c.pop_front.new.self.items = rw (← c.group-in-loop-left.view_is) (rw c.in-Some.is at c.pop_front.ensures.items) in
    let same : c.group-in-loop-left.inside.convert ≡ c.args.group.now.convert = rw (← c.group-in-loop-left.view_is) at c.loop-left.invariant.convert in
    round-lacks (λ state. g.P.Poller.polls state c.args.world.now.told.state.clock.time c.args.cx.now.task) g.P.Poller.spends _ _ _ _ _ _ _ _ _ _ _ is c.loop-left-test.true c.loop-left.invariant.within c.loop-left.invariant.goes _ _ (rw c.in-Ready.is at (simp time at c.poll.ensures.steps)) c.give_up.ensures.steps (sym c.lacks-ends.ensures ∙ c.if-ends.true) _ _ _ (rw same at c.end.ensures.steps)

pub loop-left-preserved : goal.loop-left-preserved
loop-left-preserved g c =
    let time = ap (λ (k : Clock). k.time) c.loop-left.invariant.kept.clock in
    let rest = c.pop_front.new.self.items in
    let is : c.loop-left.group.handles ≡ c.in-Some.handle ∷ rest = rw (← c.group-in-loop-left.view_is) (rw c.in-Some.is at c.pop_front.ensures.items) in
    let most : c.loop-left.left ≤ length (c.in-Some.handle ∷ rest) = rw is at c.loop-left.invariant.within in
    let same : c.group-in-loop-left.inside.convert ≡ c.args.group.now.convert = rw (← c.group-in-loop-left.view_is) at c.loop-left.invariant.convert in
    elim c.match-poll.branch [
      | in-Pending w ↦ rw (w.world-is, w.group-inside-is) (record {
        polling = still-polling _ _ _ c.poll.ensures.kept c.loop-left.invariant.polling;
        kept = kept-kept _ _ _ c.loop-left.invariant.kept c.poll.ensures.kept;
        long = λ e. still-long c.loop-left.world c.poll.new.world c.poll.result c.poll.ensures.lack w.in-Pending.is (c.loop-left.invariant.long e);
        within = rw (w.push_back_reserved.ensures.items, length-append rest (c.poll.new.self ∷ [])) (omega (arith, most));
        convert = same;
        goes = rw w.push_back_reserved.ensures.items (round-pending (λ state. g.P.Poller.polls state c.args.world.now.told.state.clock.time c.args.cx.now.task) g.P.Poller.spends _ _ _ _ _ _ _ _ _ _ _ is c.loop-left-test.true c.loop-left.invariant.within c.loop-left.invariant.goes (rw w.in-Pending.is at (simp time at c.poll.ensures.steps)));
      })
      | in-Ready+else-ends w ↦
          let fine : lacks w.in-Ready.answer ≡ false = sym w.lacks-ends.ensures ∙ w.if-ends.false in
          rw (w.world-is, w.group-inside-is) (record {
            polling = still-polling c.loop-left.world w.give_up.new.world c.args.cx.now.task (kept-kept c.loop-left.world c.poll.new.world w.give_up.new.world c.poll.ensures.kept w.give_up.ensures.kept) c.loop-left.invariant.polling;
            kept = kept-kept c.args.world.now c.loop-left.world w.give_up.new.world c.loop-left.invariant.kept (kept-kept c.loop-left.world c.poll.new.world w.give_up.new.world c.poll.ensures.kept w.give_up.ensures.kept);
            long = λ e. w.give_up.ensures.lacked ∙ long-drained c.loop-left.world c.poll.new.world w.in-Ready.answer (rw w.in-Ready.is at c.poll.ensures.lack) fine (c.loop-left.invariant.long e);
            within = omega (arith, most);
            convert = same;
            goes = round-next (λ state. g.P.Poller.polls state c.args.world.now.told.state.clock.time c.args.cx.now.task) g.P.Poller.spends _ _ _ _ _ _ _ _ _ _ _ is c.loop-left-test.true c.loop-left.invariant.within c.loop-left.invariant.goes _ _ (rw w.in-Ready.is at (simp time at c.poll.ensures.steps)) w.give_up.ensures.steps fine;
          })
    ]

pub returns-clause-steps : goal.returns-clause-steps
returns-clause-steps g c =
    let none : c.loop-left.left ≡ 0 = omega (arith, c.loop-left-test.false) in
    let waits = rw c.loop-left.invariant.convert at c.answer.ensures.waits in
    goes-on c.args.world.now c.loop-left.world _ c.answer.result c.answer.new.self (c.loop-left.invariant.goes c.loop-left.world c.answer.result c.answer.new.self (rw (none, c.answer.ensures.told, waits) (drains-none g.row.V.Denot _ _ _ _ _ _)))
