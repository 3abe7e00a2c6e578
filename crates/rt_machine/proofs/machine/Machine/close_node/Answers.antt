use Rattle.rt_machine.proofs.Prelude.{◌≡◌, ◌∙◌, refl, sym, arith, true, is_live, after, is_closing}
use Rattle.rt_machine.proofs.Nodes.{live-release, length-release}
use Rattle.rt_machine.proofs.Owed.{due-close}
use Rattle.rt_machine.proofs.Over.{over-release}
use Rattle.rt_machine.proofs.machine.Machine.close_node.Goals as goal

pub overflow_sub-self : goal.overflow_sub-self
overflow_sub-self c =
    let s = c.self.inside.journal.told.state in
    let i = c.self.invariant in
    let live : is_live s.stood.nodes c.args.node ≡ true = rw i.nodes_are (cc) in
    omega (arith, live-release s.stood.nodes c.args.node live, i.promised_is)

pub invariant_of-self : goal.invariant_of-self
unfolding after
invariant_of-self c =
    let s = c.self.inside.journal.told.state in
    let i = c.self.invariant in
    let live : is_live s.stood.nodes c.args.node ≡ true = rw i.nodes_are (cc) in
    let fewer = live-release s.stood.nodes c.args.node live in
    rw (c.note.ensures.told, c.release.ensures)
    record {
      clock_is = i.clock_is;
      numbers_are = i.numbers_are;
      root_is = i.root_is;
      left_is = i.left_is;
      panicked_is = i.panicked_is;
      nodes_are = rw i.nodes_are refl;
      labels_are = i.labels_are;
      closing_is = i.closing_is;
      ready_is = i.ready_is;
      alarms_are = i.alarms_are;
      marks_are = i.marks_are;
      results_are = i.results_are;
      slots_are = i.slots_are;
      signals_are = i.signals_are;
      stop_is = i.stop_is;
      nobody_met = i.nobody_met;
      none_announced = refl;
      none_drawn = refl;
      none_owed = due-close (is_closing s.phase) s.marks s.stood c.args.node;
      all_ended = λ closing. over-release s.stood.nodes c.args.node (i.all_ended closing);
      label_next = i.label_next ∙ sym (length-release c.self.inside.tree c.args.node);
      mark_next = i.mark_next;
      result_next = i.result_next;
      sender_next = i.sender_next;
      promised_is = omega (arith, fewer, i.promised_is);
      room = omega (arith, fewer, i.promised_is, i.room, c.note.ensures.spare);
      ready_room = omega (arith, i.ready_room);
      fit = i.fit;
      within = i.within;
    }
