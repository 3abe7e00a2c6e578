use Rattle.rt_machine.proofs.Prelude.{◌≡◌, ◌∙◌, refl, sym, arith, Some, find, after, is_closing, result_places, without-places}
use Rattle.rt_machine.proofs.Owed.{due-give-up}
use Rattle.rt_machine.proofs.machine.Machine.give_up.Goals as goal

pub overflow_sub-self : goal.overflow_sub-self
overflow_sub-self c =
    let s = c.self.inside.journal.told.state in
    let i = c.self.invariant in
    let there : find c.args.task c.self.inside.results.items ≡ Some c.in-Some.found = sym c.get.ensures ∙ c.in-Some.is in
    let fewer = without-places result_places c.args.task s.stood.results c.in-Some.found (rw i.results_are there) in
    omega (arith, fewer, i.promised_is, c.places_of.ensures)

pub invariant_of-self : goal.invariant_of-self
unfolding after
invariant_of-self c =
    let s = c.self.inside.journal.told.state in
    let i = c.self.invariant in
    let there : find c.args.task c.self.inside.results.items ≡ Some c.in-Some.found = sym c.get.ensures ∙ c.in-Some.is in
    let fewer = without-places result_places c.args.task s.stood.results c.in-Some.found (rw i.results_are there) in
    rw c.note.ensures.told
    record {
      clock_is = i.clock_is;
      numbers_are = i.numbers_are;
      root_is = i.root_is;
      left_is = i.left_is;
      panicked_is = i.panicked_is;
      nodes_are = i.nodes_are;
      labels_are = i.labels_are;
      closing_is = i.closing_is;
      ready_is = i.ready_is;
      alarms_are = i.alarms_are;
      marks_are = i.marks_are;
      results_are = rw (c.remove.ensures.items, i.results_are) refl;
      slots_are = i.slots_are;
      signals_are = i.signals_are;
      stop_is = i.stop_is;
      nobody_met = i.nobody_met;
      none_announced = refl;
      none_drawn = refl;
      none_owed = due-give-up (is_closing s.phase) s.marks s.stood c.args.task;
      all_ended = i.all_ended;
      label_next = i.label_next;
      mark_next = i.mark_next;
      result_next = c.remove.ensures.next ∙ i.result_next;
      sender_next = i.sender_next;
      promised_is = omega (arith, fewer, i.promised_is, c.places_of.ensures);
      room = omega (arith, i.room, fewer, i.promised_is, c.places_of.ensures, c.note.ensures.spare);
      ready_room = omega (arith, i.ready_room);
      fit = i.fit;
      within = i.within;
    }
