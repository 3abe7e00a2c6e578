use Rattle.rt_machine.proofs.Prelude.{◌≡◌, ◌≤◌, ◌∙◌, refl, ap, arith, find, IsClosed, total, with_outcome, after, mark_places, result_places, Told}
use Rattle.rt_machine.proofs.Ended.{closing-ended}
use Rattle.rt_machine.proofs.Counts.{ends-fewer, below-without}
use Rattle.rt_machine.proofs.Totals.{without-fewer}
use Rattle.rt_machine.proofs.Nodes.{released-fewer, length-released}
use Rattle.rt_machine.proofs.Over.{over-released}
use Rattle.rt_machine.proofs.machine.Machine.task_ended.Goals as goal

-- one place fewer is promised, and one task fewer runs
pub invariant_of-self : goal.invariant_of-self
unfolding after
invariant_of-self c =
    let s = c.self.inside.journal.told.state in
    let i = c.self.invariant in
    let task = c.args.task in
    let next = rw (← c.self.view_is) at c.requires.next in
    let phase = rw (← c.self.view_is) at c.requires.phase in
    let state : c.push.new.self.told.state ≡ _ = ap (λ (t : Told). t.state) c.push.ensures.told ∙ closing-ended s task _ phase in
    let begin : c.push.new.self.told.begin ≡ c.self.inside.journal.told.begin = ap (λ (t : Told). t.begin) c.push.ensures.told in
    let fewer = ends-fewer s.running s.root task next in
    let marks = without-fewer mark_places task s.marks in
    let nodes = released-fewer (find task s.marks) s.stood.nodes in
    let results = c.settle-before.ensures.places refl in
    let fewer_results : total result_places c.settle-before.new.results.items ≤ total result_places c.self.inside.results.items = omega (arith, results) in
    let kept : total result_places (with_outcome IsClosed task s.stood.results) ≤ total result_places s.stood.results = rw (c.settle-before.ensures.items, ← i.results_are) at fewer_results in
    let room = rw phase at i.room in
    rw (state, begin)
    record {
      clock_is = i.clock_is;
      numbers_are = i.numbers_are;
      root_is = i.root_is;
      left_is = i.left_is;
      panicked_is = i.panicked_is;
      nodes_are = rw (c.leave_node.ensures.tree, ← i.nodes_are, ← i.marks_are) refl;
      labels_are = i.labels_are;
      closing_is = i.closing_is;
      ready_is = i.ready_is;
      alarms_are = i.alarms_are;
      marks_are = rw (c.leave_node.ensures.items, ← i.marks_are) refl;
      results_are = rw (c.settle-before.ensures.items, ← i.results_are) refl;
      slots_are = i.slots_are;
      signals_are = i.signals_are;
      stop_is = i.stop_is;
      nobody_met = i.nobody_met;
      none_announced = refl;
      none_drawn = i.none_drawn;
      none_owed = refl;
      all_ended = λ closing. over-released (find task s.marks) s.stood.nodes (i.all_ended closing);
      label_next = rw (c.leave_node.ensures.tree, length-released (find task c.self.inside.marks.items) c.self.inside.tree) i.label_next;
      mark_next = c.leave_node.ensures.next ∙ i.mark_next;
      result_next = c.settle-before.ensures.next ∙ i.result_next;
      sender_next = i.sender_next;
      promised_is = omega (arith, fewer, marks, nodes, kept, i.promised_is);
      room = omega (arith, room, fewer, i.promised_is, c.push.ensures.spare);
      ready_room = omega (arith, i.ready_room);
      fit = below-without _ task s.running i.fit;
      within = i.within;
    }
