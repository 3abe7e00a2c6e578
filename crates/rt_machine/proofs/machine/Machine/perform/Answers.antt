use Rattle.rt_machine.proofs.Prelude.{◌≡◌, ◌≤◌, ◌+◌, ◌∙◌, refl, sym, ap, arith, length, length-append, List, ℕ, [], if◌then◌else◌, those, Slotted, slots_by, slots_wake, after, is_closing, is_spending, slot_cost, slots_owe, slotted, cost-spent}
use Rattle.rt_machine.proofs.Fine.{places-most}
use Rattle.rt_machine.proofs.Totals.{owed-fewer}
use Rattle.rt_machine.proofs.Owed.{due-slots}
use Rattle.rt_machine.proofs.CallRoom.{entry-fits, wakes-fit, room-after, seats-fit, seats-after}
use Rattle.rt_machine.proofs.machine.Machine.perform.Goals as goal

pub overflow_sub-self : goal.overflow_sub-self
overflow_sub-self c =
    let i = c.self.invariant in
    let before = c.take_room.ensures.slotted ∙ sym i.slots_are in
    let owes = ap (λ (ss : Slotted). slots_owe ss) before in
    omega (arith, owes, c.apply-waiter.ensures.places, i.promised_is, c.cost_of.ensures)

pub note-requires-clause-room : goal.note-requires-clause-room
note-requires-clause-room c =
    let i = c.self.invariant in
    let s = c.self.inside.journal.told.state in
    let before = c.take_room.ensures.slotted ∙ sym i.slots_are in
    let owes = ap (λ (ss : Slotted). slots_owe ss) before in
    let freed = c.apply-waiter.result.1 in
    let promised = c.self.inside.promised in
    let owed : freed ≤ promised + slot_cost c.args.call = omega (arith, owes, c.apply-waiter.ensures.places, i.promised_is) in
    entry-fits (is_spending c.args.call) promised (slot_cost c.args.call) freed (length (those c.apply-waiter.result.0)) (cost-spent c.args.call) c.apply-waiter.ensures.enough owed _ _ _ (places-most s.phase) i.room c.take_room.ensures.kept c.in-Ok.ensures.room

pub wake_waiter-requires-clause-owed : goal.wake_waiter-requires-clause-owed
unfolding after
wake_waiter-requires-clause-owed c =
    let s = c.self.inside.journal.told.state in
    let i = c.self.invariant in
    let before = c.take_room.ensures.slotted ∙ sym i.slots_are in
    let waits = c.apply-waiter.ensures.waiter ∙ ap (λ (ss : Slotted). slots_wake ss c.args.call c.args.reply) before in
    rw (c.note.ensures.told, c.take_room.ensures.told) (due-slots (is_closing s.phase) s.marks s.stood c.args.call c.args.reply ∙ rw (i.closing_is, waits) refl)

pub wake_waiter-requires-clause-room : goal.wake_waiter-requires-clause-room
wake_waiter-requires-clause-room c =
    let i = c.self.invariant in
    let s = c.self.inside.journal.told.state in
    let before = c.take_room.ensures.slotted ∙ sym i.slots_are in
    let owes = ap (λ (ss : Slotted). slots_owe ss) before in
    let freed = c.apply-waiter.result.1 in
    let promised = c.self.inside.promised in
    let owed : freed ≤ promised + slot_cost c.args.call = omega (arith, owes, c.apply-waiter.ensures.places, i.promised_is) in
    wakes-fit (is_spending c.args.call) promised (slot_cost c.args.call) freed (length (those c.apply-waiter.result.0)) (cost-spent c.args.call) c.apply-waiter.ensures.enough owed _ _ _ (places-most s.phase) i.room c.take_room.ensures.kept c.in-Ok.ensures.room _ c.note.ensures.spare

pub wake_waiter-requires-clause-seats : goal.wake_waiter-requires-clause-seats
wake_waiter-requires-clause-seats c =
    let i = c.self.invariant in
    let before = c.take_room.ensures.slotted ∙ sym i.slots_are in
    let owes = ap (λ (ss : Slotted). slots_owe ss) before in
    let freed = c.apply-waiter.result.1 in
    let promised = c.self.inside.promised in
    let owed : freed ≤ promised + slot_cost c.args.call = omega (arith, owes, c.apply-waiter.ensures.places, i.promised_is) in
    seats-fit (is_spending c.args.call) promised (slot_cost c.args.call) freed (length (those c.apply-waiter.result.0)) (cost-spent c.args.call) c.apply-waiter.ensures.enough owed _ _ i.ready_room c.take_room.ensures.seated c.in-Ok.ensures.seats

pub invariant_of-self-2 : goal.invariant_of-self-2
unfolding after
invariant_of-self-2 c =
    let s = c.self.inside.journal.told.state in
    let i = c.self.invariant in
    let closing = c.self.inside.closing in
    let call = c.args.call in
    let a = c.apply-waiter.ensures in
    let waiter = c.apply-waiter.result.0 in
    let freed = c.apply-waiter.result.1 in
    let promised = c.self.inside.promised in
    let waits = length (those waiter) in
    let before : slotted c.take_room.new.slots c.take_room.new.senders ≡ s.stood.slots = c.take_room.ensures.slotted ∙ sym i.slots_are in
    let behind : slotted c.apply-waiter.new.slots c.apply-waiter.new.senders ≡ slots_by s.stood.slots c.args.by call c.args.reply = a.slotted ∙ ap (λ (ss : Slotted). slots_by ss c.args.by call c.args.reply) before in
    let owes = ap (λ (ss : Slotted). slots_owe ss) before in
    let owes_then = ap (λ (ss : Slotted). slots_owe ss) behind in
    let met = a.waiter ∙ ap (λ (ss : Slotted). slots_wake ss call c.args.reply) before in
    let owed : c.note.new.self.told.state.owed ≡ (if closing then [] else those waiter) = rw (c.note.ensures.told, c.take_room.ensures.told) (due-slots (is_closing s.phase) s.marks s.stood call c.args.reply ∙ rw (i.closing_is, met) refl) in
    let fewer : freed ≤ promised + slot_cost call = omega (arith, owes, a.places, i.promised_is) in
    let woken : length c.note.new.self.told.state.owed ≤ waits = rw owed (owed-fewer closing (those waiter)) in
    let shown = ap (λ (xs : List ℕ). length xs) c.wake_waiter.ensures.ready in
    let grown = length-append c.take_room.new.ready.items c.note.new.self.told.state.owed in
    let left = room-after (is_spending call) promised (slot_cost call) freed waits (cost-spent call) a.enough fewer _ _ _ (places-most s.phase) i.room c.take_room.ensures.kept c.in-Ok.ensures.room _ _ c.note.ensures.spare c.wake_waiter.ensures.spare in
    let free = seats-after (is_spending call) promised (slot_cost call) freed waits (cost-spent call) a.enough fewer _ _ i.ready_room c.take_room.ensures.seated c.in-Ok.ensures.seats (length c.note.new.self.told.state.owed) _ woken (omega (arith, shown, grown, c.wake_waiter.ensures.capacity, c.wake_waiter.new.ready.ok, c.take_room.new.ready.ok)) in
    rw (c.wake_waiter.ensures.state, c.wake_waiter.ensures.begin, c.note.ensures.told, c.take_room.ensures.told, c.of.ensures)
    record {
      clock_is = i.clock_is;
      numbers_are = i.numbers_are;
      root_is = i.root_is;
      left_is = i.left_is;
      panicked_is = i.panicked_is;
      nodes_are = i.nodes_are;
      labels_are = i.labels_are;
      closing_is = i.closing_is;
      ready_is = rw (c.wake_waiter.ensures.ready, c.take_room.ensures.items, c.note.ensures.told, c.take_room.ensures.told, i.ready_is) refl;
      alarms_are = i.alarms_are;
      marks_are = i.marks_are;
      results_are = i.results_are;
      slots_are = sym behind;
      signals_are = i.signals_are;
      stop_is = i.stop_is;
      nobody_met = i.nobody_met;
      none_announced = refl;
      none_drawn = refl;
      none_owed = refl;
      all_ended = i.all_ended;
      label_next = i.label_next;
      mark_next = i.mark_next;
      result_next = i.result_next;
      sender_next = a.next;
      promised_is = omega (arith, owes, owes_then, a.places, i.promised_is, c.cost_of.ensures);
      room = rw c.cost_of.ensures left;
      ready_room = rw c.cost_of.ensures free;
      fit = i.fit;
      within = i.within;
    }
