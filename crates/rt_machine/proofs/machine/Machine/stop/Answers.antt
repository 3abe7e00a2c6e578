use Rattle.rt_machine.proofs.Prelude.{rules, ◌≡◌, ◌≤◌, ◌+◌, ◌-◌, vec_len, vec_capacity, ◌∙◌, ◌++◌, ◌∷◌, refl, ap, arith, length, length-append, List, ℕ, [], if◌then◌else◌, to_z-of_z, stop_after, with_stop, woken_by_stop, Stop, CompletionAt, due_called, is_closing, MayCall, turn_in, Grouped, grouped, signal_places, Told}
use Rattle.rt_machine.proofs.Announced.{after-stop, may-stop}
use Rattle.rt_machine.proofs.Totals.{owed-fewer}
use Rattle.rt_machine.proofs.Owed.{due-stop}
use Rattle.rt_machine.proofs.Fine.{places-most}
use Rattle.rt_machine.proofs.machine.Machine.stop.Goals as goal

pub note-requires-clause-may : goal.note-requires-clause-may
note-requires-clause-may c =
    rw (c.in-Ok.ensures.told, c.in-Ok-stop_event.ensures, to_z-of_z c.ranges.value) (may-stop c.self.inside.journal.told.state c.args.by c.args.value (rw (← c.self.view_is) at c.requires) c.self.invariant.none_owed c.self.invariant.none_announced)

pub invariant_of-self-2 : goal.invariant_of-self-2
invariant_of-self-2 c =
    let s = c.self.inside.journal.told.state in
    let i = c.self.invariant in
    let may : MayCall s c.args.by = rw (← c.self.view_is) at c.requires in
    let value = c.args.value in
    let same = to_z-of_z c.ranges.value in
    let number = c.in-Ok-stop.completion in
    let closing = c.self.inside.closing in
    let placed = c.in-Ok.ensures in
    let groups = c.self.inside.groups in
    let given : c.stop.new.self ≡ grouped (stop_after groups.told groups.stop value) (with_stop groups.stop value) (woken_by_stop groups.told groups.stop value) = c.in-Ok-stop.ensures.told ∙ ap (λ v. grouped (stop_after groups.told groups.stop v) (with_stop groups.stop v) (woken_by_stop groups.told groups.stop v)) same in
    let met = woken_by_stop groups.told groups.stop value in
    let due = due_called (is_closing s.phase) s.marks s.stood (Stop value) (CompletionAt number) in
    let told = placed.told in
    let state : c.note-2.new.self.told.state ≡ record s { draws = []; stood = record s.stood { signals = stop_after s.stood.signals s.stood.stop value; stop = with_stop s.stood.stop value }; announced = []; owed = due; turns = s.turns ++ turn_in s c.args.by (Stop value) (CompletionAt number) ∷ [] } =
    ap (λ (t : Told). t.state) c.note-2.ensures.told ∙ rw (c.note.ensures.told, told, c.in-Ok-stop_event.ensures, same, c.of.ensures) (after-stop s c.args.by value number _ _ may) in
    let begin : c.note-2.new.self.told.begin ≡ c.self.inside.journal.told.begin = rw (c.note-2.ensures.told, c.note.ensures.told, told) refl in
    let woken : c.stop.new.self.woken ≡ met = ap (λ (g : Grouped). g.woken) given in
    let owed : due ≡ (if closing then [] else met) = due-stop (is_closing s.phase) s.marks s.stood value number ∙ rw (i.closing_is, i.signals_are, i.stop_is) refl in
    let fewer : length due ≤ length met = rw owed (owed-fewer closing met) in
    let count : c.wake_met.result ≡ length met = rw woken at c.wake_met.ensures.count in
    let places : signal_places (stop_after groups.told groups.stop value) + length met ≤ signal_places groups.told + 1 = rw given at c.in-Ok-stop.ensures.places in
    let owes : signal_places s.stood.signals ≡ signal_places groups.told = rw i.signals_are refl in
    let ready : c.wake_met.new.ready.items ≡ c.self.inside.ready.items ++ due = rw (state, placed.items) at c.wake_met.ensures.ready in
    let shown = ap (λ (xs : List ℕ). length xs) ready in
    let grown = length-append c.self.inside.ready.items due in
    let room : c.self.inside.promised + 6 + 3 ≤ c.take_places.new.journal.spare = placed.room in
    let seats : c.self.inside.promised + 3 ≤ vec_capacity c.take_places.new.ready - vec_len c.take_places.new.ready = placed.seats in
    let one : c.note.new.self.spare + 1 ≡ c.take_places.new.journal.spare = c.note.ensures.spare in
    let two : c.note-2.new.self.spare + 1 ≡ c.note.new.self.spare = c.note-2.ensures.spare in
    let woke : c.note-2.new.self.spare ≤ c.wake_met.new.journal.spare + c.wake_met.result = c.wake_met.ensures.spare in
    let full : vec_capacity c.wake_met.new.ready ≡ vec_capacity c.take_places.new.ready = c.wake_met.ensures.capacity in
    let held = ap (λ (xs : List ℕ). length xs) placed.items in
    rw (c.wake_met.ensures.state, c.wake_met.ensures.begin, c.wake_met.ensures.groups, begin, state)
    record {
      clock_is = i.clock_is;
      numbers_are = i.numbers_are;
      root_is = i.root_is;
      left_is = i.left_is;
      panicked_is = i.panicked_is;
      nodes_are = i.nodes_are;
      labels_are = i.labels_are;
      closing_is = i.closing_is;
      ready_is = rw (ready, i.ready_is) refl;
      alarms_are = i.alarms_are;
      marks_are = i.marks_are;
      results_are = i.results_are;
      slots_are = i.slots_are;
      signals_are = rw (given, i.signals_are, i.stop_is) refl;
      stop_is = rw (given, i.stop_is) refl;
      nobody_met = refl;
      none_announced = refl;
      none_drawn = refl;
      none_owed = refl;
      all_ended = i.all_ended;
      label_next = i.label_next;
      mark_next = i.mark_next;
      result_next = i.result_next;
      sender_next = i.sender_next;
      promised_is = rw (i.signals_are, i.stop_is) omega (arith, places, count, owes, i.promised_is);
      room = omega (arith, places-most s.phase, room, places, owes, i.promised_is, count, one, two, woke);
      ready_room = omega (arith, seats, places, owes, i.promised_is, fewer, shown, grown, count, full, held, c.wake_met.new.ready.ok, c.take_places.new.ready.ok);
      fit = i.fit;
      within = i.within;
    }

pub returns-clause-ok : goal.returns-clause-ok
returns-clause-ok c =
    let s = c.self.inside.journal.told.state in
    let may : MayCall s c.args.by = rw (← c.self.view_is) at c.requires in
    let value = c.args.value in
    let same = to_z-of_z c.ranges.value in
    let number = c.in-Ok-stop.completion in
    let told = c.in-Ok.ensures.told in
    let due = due_called (is_closing s.phase) s.marks s.stood (Stop value) (CompletionAt number) in
    let state : c.note-2.new.self.told.state ≡ record s { draws = []; stood = record s.stood { signals = stop_after s.stood.signals s.stood.stop value; stop = with_stop s.stood.stop value }; announced = []; owed = due; turns = s.turns ++ turn_in s c.args.by (Stop value) (CompletionAt number) ∷ [] } =
    ap (λ (t : Told). t.state) c.note-2.ensures.told ∙ rw (c.note.ensures.told, told, c.in-Ok-stop_event.ensures, same, c.of.ensures) (after-stop s c.args.by value number _ _ may) in
    rw (c.wake_met.ensures.state, state) (search rules)
