use Rattle.rt_machine.proofs.Prelude.{◌≡◌, ◌∙◌, refl, sym, arith, true, length, is_live, with_child, after, is_closing}
use Rattle.rt_machine.proofs.Nodes.{live-child, length-child}
use Rattle.rt_machine.proofs.Fine.{on-ok, places-most}
use Rattle.rt_machine.proofs.Owed.{due-child}
use Rattle.rt_machine.proofs.Over.{over-child}
use Rattle.rt_machine.proofs.machine.Machine.make_child.Goals as goal

pub invariant_of-self-2 : goal.invariant_of-self-2
unfolding after
invariant_of-self-2 c =
    let s = c.self.inside.journal.told.state in
    let i = c.self.invariant in
    let number = c.in-Ok.number in
    let label = c.requires.call.0 in
    let is = c.requires.call.1 in
    let full = rw (← c.self.view_is) at c.requires.call.3 in
    let made : c.child.new.self ≡ with_child c.self.inside.tree number c.args.node = c.in-Ok.ensures.made in
    let numbered : number ≡ length c.self.inside.tree.nodes = c.in-Ok.ensures.numbered in
    let live : is_live c.self.inside.tree c.args.node ≡ true = rw (← i.nodes_are) (rw (← c.self.view_is) at c.requires.live) in
    let more = live-child s.stood.nodes number c.args.node in
    let room = on-ok c.take_places-room.result _ c.if-is_err.ensures.value c.take_places-room.ensures.room in
    let seats = on-ok c.take_places-room.result _ c.if-is_err.ensures.value c.take_places-room.ensures.seats in
    let most = places-most s.phase in
    rw (c.note.ensures.told, c.take_places-room.ensures.told, is)
    record {
      clock_is = i.clock_is;
      numbers_are = i.numbers_are;
      root_is = i.root_is;
      left_is = i.left_is;
      panicked_is = i.panicked_is;
      nodes_are = rw (i.nodes_are, made) refl;
      labels_are = sym (c.push.ensures.items ∙ (rw (c.reserve-place.ensures.items, c.reserve-place.ensures.count, i.label_next, ← numbered, ← i.labels_are, full) refl));
      closing_is = i.closing_is;
      ready_is = i.ready_is ∙ sym c.take_places-room.ensures.items;
      alarms_are = i.alarms_are;
      marks_are = i.marks_are;
      results_are = i.results_are;
      slots_are = i.slots_are;
      signals_are = i.signals_are;
      stop_is = i.stop_is;
      nobody_met = i.nobody_met;
      none_announced = refl;
      none_drawn = refl;
      none_owed = due-child (is_closing s.phase) s.marks s.stood c.args.node label number c.in-Ok.ended;
      all_ended = λ closing. rw (i.nodes_are, ← made) (over-child c.self.inside.tree c.child.new.self number c.args.node c.in-Ok.ended made c.in-Ok.ensures.flag c.in-Ok.ensures.born live (rw (← i.nodes_are) (i.all_ended closing)));
      label_next = rw (c.push.ensures.count, c.reserve-place.ensures.count, i.label_next, made, length-child c.self.inside.tree number c.args.node) refl;
      mark_next = i.mark_next;
      result_next = i.result_next;
      sender_next = i.sender_next;
      promised_is = omega (arith, more, i.promised_is);
      room = omega (arith, room, most, c.note.ensures.spare);
      ready_room = omega (arith, seats);
      fit = i.fit;
      within = i.within;
    }
