use Rattle.rt_machine.proofs.Prelude.{◌≡◌, ◌<◌, ◌∙◌, refl, sym, arith, length, ◌^◌, ◌-◌, ap, true, false, is_ended, with_child, with_task, is_free, Numbers, after, is_closing, new_mark, new_result, mark_places, result_places, more-places}
use Rattle.rt_machine.proofs.Seats.{free-live}
use Rattle.rt_machine.proofs.Counts.{length-with, below-with}
use Rattle.rt_machine.proofs.Nodes.{live-child, live-task, length-child, length-task}
use Rattle.rt_machine.proofs.Fine.{places-most}
use Rattle.rt_machine.proofs.Owed.{due-spawn}
use Rattle.rt_machine.proofs.Over.{over-node, not-both, not-closing}
use Rattle.rt_machine.proofs.machine.Machine.spawn_running.Goals as goal

pub invariant_of-self-2 : goal.invariant_of-self-2
unfolding after
invariant_of-self-2 c =
    let s = c.self.inside.journal.told.state in
    let i = c.self.invariant in
    let task = c.self.inside.next in
    let node = c.args.node in
    let number = c.in-Ok-seat.number in
    let tree = c.self.inside.tree in
    let made : c.seat.new.tree ≡ with_task (with_child tree number node) node task = c.in-Ok-seat.ensures.made in
    let numbered : number ≡ length tree.nodes = c.in-Ok-seat.ensures.numbered in
    let more_live = live-child s.stood.nodes number node in
    let same_live = live-task (with_child s.stood.nodes number node) node task in
    let more_runs = length-with task s.running in
    let more_marks = more-places mark_places s.marks (task, new_mark node) in
    let more_results = more-places result_places s.stood.results (task, new_result) in
    let free : is_free s.stood.nodes node ≡ true = rw (← c.self.view_is) at c.requires.free in
    let unended : is_ended s.stood.nodes node ≡ false = rw (← c.self.view_is) at c.requires.open in
    let left = rw (← c.self.view_is) at c.requires.left in
    let same : s.numbers.next ≡ task = ap (λ (n : Numbers). n.next) i.numbers_are in
    let low : task < 2 ^ 64 - 1 = omega (arith, left, same) in
    let most = places-most s.phase in
    rw (c.note.ensures.told, c.take_places.ensures.told)
    record {
      clock_is = i.clock_is;
      numbers_are = rw i.numbers_are refl;
      root_is = i.root_is;
      left_is = i.left_is;
      panicked_is = i.panicked_is;
      nodes_are = rw (i.nodes_are, made) refl;
      labels_are = sym (c.repeat.ensures.items ∙ (rw (c.reserve_task.ensures.items, c.reserve_task.ensures.count, i.label_next, ← numbered, ← i.labels_are) refl));
      closing_is = i.closing_is;
      ready_is = rw (c.push_reserved.ensures.items, c.take_places.ensures.items, i.ready_is) refl;
      alarms_are = i.alarms_are;
      marks_are = rw (c.push.ensures.items, c.new.ensures, c.reserve_task.ensures.mark_items, c.reserve_task.ensures.mark_next, i.mark_next, i.marks_are) refl;
      results_are = rw (c.push-2.ensures.items, c.reserve_task.ensures.result_items, c.reserve_task.ensures.result_next, i.result_next, i.results_are) refl;
      slots_are = i.slots_are;
      signals_are = i.signals_are;
      stop_is = i.stop_is;
      nobody_met = i.nobody_met;
      none_announced = refl;
      none_drawn = refl;
      none_owed = due-spawn (is_closing s.phase) s.marks s.stood node _;
      all_ended = λ closing. absurd (not-both (is_ended s.stood.nodes node) (over-node s.stood.nodes node (i.all_ended closing) (free-live s.stood.nodes node free)) unended);
      label_next = rw (c.repeat.ensures.count, c.reserve_task.ensures.count, i.label_next, made, length-task (with_child tree number node) node task, length-child tree number node) refl;
      mark_next = rw (c.push.ensures.next, c.reserve_task.ensures.mark_next, i.mark_next) refl;
      result_next = rw (c.push-2.ensures.next, c.reserve_task.ensures.result_next, i.result_next) refl;
      sender_next = i.sender_next;
      promised_is = omega (arith, more_live, same_live, more_runs, more_marks, more_results, i.promised_is);
      room = omega (arith, c.in-Ok.ensures.room, most, c.note.ensures.spare);
      ready_room = omega (arith, c.in-Ok.ensures.seats, c.push_reserved.ensures.len, c.push_reserved.ensures.capacity);
      fit = below-with _ task s.running low i.fit;
      within = i.within;
    }

pub returns-clause-running : goal.returns-clause-running
returns-clause-running c =
    let s = c.self.inside.journal.told.state in
    let i = c.self.invariant in
    let node = c.args.node in
    let free : is_free s.stood.nodes node ≡ true = rw (← c.self.view_is) at c.requires.free in
    let unended : is_ended s.stood.nodes node ≡ false = rw (← c.self.view_is) at c.requires.open in
    rw (← c.self.view_is, ← i.closing_is) (not-closing c.self.inside.closing (λ closing. not-both (is_ended s.stood.nodes node) (over-node s.stood.nodes node (i.all_ended closing) (free-live s.stood.nodes node free)) unended))
