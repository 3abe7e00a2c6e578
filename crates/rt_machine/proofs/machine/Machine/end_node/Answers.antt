use Rattle.rt_machine.proofs.Prelude.{◌≡◌, ◌≤◌, ◌+◌, ◌∙◌, ◌++◌, refl, sym, ap, arith, true, is_some, is_none, None, length, List, ℕ, [], append-nil, length-append, with_end, State, Leaving, due_all, flag_all, find, those, total, flagged_by, left_of, unflagged, ended_results, ended_waiting, open_in, mark_places, result_places, Told, waits-places}
use Rattle.rt_machine.proofs.Totals.{without-one, has-flagged}
use Rattle.rt_machine.proofs.Nodes.{length-end, live-end}
use Rattle.rt_machine.proofs.Calm.{calmly-one, calmly-calmly}
use Rattle.rt_machine.proofs.Over.{not-both}
use Rattle.rt_machine.proofs.Ended.{node-ended}
use Rattle.rt_machine.proofs.machine.Machine.end_node.Goals as goal

pub wake_those-requires-clause-owed : goal.wake_those-requires-clause-owed
wake_those-requires-clause-owed c =
    let s = c.self.inside.journal.told.state in
    let i = c.self.invariant in
    let task = c.args.task in
    let own = c.args.own in
    let node = c.get-node.result in
    let phase : s.phase ≡ Leaving task own (left_of s.phase) = rw (← c.self.view_is) at c.requires.phase in
    let pushed_state = ap (λ (t : Told). t.state) c.push.ensures.told ∙ node-ended s task own (left_of s.phase) node phase in
    let ended : c.end.new.self ≡ with_end c.self.inside.tree node = c.end.ensures.ended in
    let due = due_all c.end.new.self.flags c.self.inside.marks.items in
    let due_is : due_all (flagged_by s.stood.nodes node) s.marks ≡ due = rw (i.nodes_are, i.marks_are, ended) refl in
    let waiter = c.waiter_of-waiter.result.0 in
    let wakes_waiter : those waiter ≡ ended_waiting None (is_none own) (find task s.stood.results) = rw (c.waiter_of-waiter.ensures.waiter, i.results_are, ← c.is_missing-closes.ensures) c.end_result-before.ensures.waiting in
    let owed : c.push.new.self.told.state.owed ≡ due ++ those waiter = ap (λ (x : State). x.owed) pushed_state ∙ rw (due_is, wakes_waiter) refl in
    ([], ap (λ (x : State). x.owed) (c.wake_flags.ensures.state (those waiter) owed) ∙ sym (append-nil (those waiter)))

pub overflow_sub-self : goal.overflow_sub-self
overflow_sub-self c =
    let s = c.self.inside.journal.told.state in
    let i = c.self.invariant in
    let task = c.args.task in
    let own = c.args.own in
    let node = c.get-node.result in
    let phase : s.phase ≡ Leaving task own (left_of s.phase) = rw (← c.self.view_is) at c.requires.phase in
    let pushed_state = ap (λ (t : Told). t.state) c.push.ensures.told ∙ node-ended s task own (left_of s.phase) node phase in
    let ended : c.end.new.self ≡ with_end c.self.inside.tree node = c.end.ensures.ended in
    let due = due_all c.end.new.self.flags c.self.inside.marks.items in
    let due_is : due_all (flagged_by s.stood.nodes node) s.marks ≡ due = rw (i.nodes_are, i.marks_are, ended) refl in
    let waiter = c.waiter_of-waiter.result.0 in
    let wakes_waiter : those waiter ≡ ended_waiting None (is_none own) (find task s.stood.results) = rw (c.waiter_of-waiter.ensures.waiter, i.results_are, ← c.is_missing-closes.ensures) c.end_result-before.ensures.waiting in
    let owed : c.push.new.self.told.state.owed ≡ due ++ those waiter = ap (λ (x : State). x.owed) pushed_state ∙ rw (due_is, wakes_waiter) refl in
    let after_flags = c.wake_flags.ensures.state (those waiter) owed in
    let owed_waiter = ap (λ (x : State). x.owed) after_flags ∙ sym (append-nil (those waiter)) in
    let state = c.wake_those.ensures.state [] owed_waiter ∙ ap (λ (x : State). record x { ready = x.ready ++ those waiter; owed = [] }) (after_flags ∙ ap (λ (x : State). record x { ready = x.ready ++ due; owed = those waiter }) pushed_state) in
    let begin = c.wake_those.ensures.begin ∙ c.wake_flags.ensures.begin ∙ ap (λ (t : Told). t.begin) c.push.ensures.told in
    let there : is_some (find task s.marks) ≡ true = rw (← c.self.view_is) at c.requires.there in
    let own_mark = without-one task (flag_all (flagged_by s.stood.nodes node) s.marks) (has-flagged task (flagged_by s.stood.nodes node) s.marks there) in
    let flag_is : c.wake_flags.new.marks.items ≡ flag_all (flagged_by s.stood.nodes node) s.marks = c.wake_flags.ensures.items ∙ rw (i.nodes_are, i.marks_are, ended) refl in
    let marks : total mark_places (flag_all (flagged_by s.stood.nodes node) s.marks) + length due ≡ total mark_places s.marks = rw (← flag_is, i.marks_are) c.wake_flags.ensures.places in
    let results : total result_places (ended_results None (is_none own) task s.stood.results) + open_in c.end_result-before.result ≡ total result_places s.stood.results = rw (i.results_are, ← c.is_missing-closes.ensures, ← c.end_result-before.ensures.items) c.end_result-before.ensures.places in
    let place = c.waiter_of-waiter.ensures.places in
    let waits : length (those waiter) ≤ open_in c.end_result-before.result = rw c.waiter_of-waiter.ensures.waiter (waits-places c.end_result-before.result) in
    let grown = ap (λ (xs : List ℕ). length xs) c.wake_flags.ensures.ready ∙ length-append c.self.inside.ready.items due in
    let flags : c.len.result ≡ c.len-ready.result + length due = omega (arith, grown, c.len.ensures, c.len-ready.ensures, c.wake_flags.new.ready.ok, c.self.inside.ready.ok) in
    let promised = rw phase at i.promised_is in
    omega (arith, own_mark, marks, results, place, flags, promised)

pub invariant_of-self : goal.invariant_of-self
invariant_of-self c =
    let s = c.self.inside.journal.told.state in
    let i = c.self.invariant in
    let task = c.args.task in
    let own = c.args.own in
    let node = c.get-node.result in
    let phase : s.phase ≡ Leaving task own (left_of s.phase) = rw (← c.self.view_is) at c.requires.phase in
    let pushed_state = ap (λ (t : Told). t.state) c.push.ensures.told ∙ node-ended s task own (left_of s.phase) node phase in
    let ended : c.end.new.self ≡ with_end c.self.inside.tree node = c.end.ensures.ended in
    let due = due_all c.end.new.self.flags c.self.inside.marks.items in
    let due_is : due_all (flagged_by s.stood.nodes node) s.marks ≡ due = rw (i.nodes_are, i.marks_are, ended) refl in
    let waiter = c.waiter_of-waiter.result.0 in
    let wakes_waiter : those waiter ≡ ended_waiting None (is_none own) (find task s.stood.results) = rw (c.waiter_of-waiter.ensures.waiter, i.results_are, ← c.is_missing-closes.ensures) c.end_result-before.ensures.waiting in
    let owed : c.push.new.self.told.state.owed ≡ due ++ those waiter = ap (λ (x : State). x.owed) pushed_state ∙ rw (due_is, wakes_waiter) refl in
    let after_flags = c.wake_flags.ensures.state (those waiter) owed in
    let owed_waiter = ap (λ (x : State). x.owed) after_flags ∙ sym (append-nil (those waiter)) in
    let state = c.wake_those.ensures.state [] owed_waiter ∙ ap (λ (x : State). record x { ready = x.ready ++ those waiter; owed = [] }) (after_flags ∙ ap (λ (x : State). record x { ready = x.ready ++ due; owed = those waiter }) pushed_state) in
    let begin = c.wake_those.ensures.begin ∙ c.wake_flags.ensures.begin ∙ ap (λ (t : Told). t.begin) c.push.ensures.told in
    let there : is_some (find task s.marks) ≡ true = rw (← c.self.view_is) at c.requires.there in
    let own_mark = without-one task (flag_all (flagged_by s.stood.nodes node) s.marks) (has-flagged task (flagged_by s.stood.nodes node) s.marks there) in
    let flag_is : c.wake_flags.new.marks.items ≡ flag_all (flagged_by s.stood.nodes node) s.marks = c.wake_flags.ensures.items ∙ rw (i.nodes_are, i.marks_are, ended) refl in
    let marks : total mark_places (flag_all (flagged_by s.stood.nodes node) s.marks) + length due ≡ total mark_places s.marks = rw (← flag_is, i.marks_are) c.wake_flags.ensures.places in
    let results : total result_places (ended_results None (is_none own) task s.stood.results) + open_in c.end_result-before.result ≡ total result_places s.stood.results = rw (i.results_are, ← c.is_missing-closes.ensures, ← c.end_result-before.ensures.items) c.end_result-before.ensures.places in
    let place = c.waiter_of-waiter.ensures.places in
    let waits : length (those waiter) ≤ open_in c.end_result-before.result = rw c.waiter_of-waiter.ensures.waiter (waits-places c.end_result-before.result) in
    let grown = ap (λ (xs : List ℕ). length xs) c.wake_flags.ensures.ready ∙ length-append c.self.inside.ready.items due in
    let flags : c.len.result ≡ c.len-ready.result + length due = omega (arith, grown, c.len.ensures, c.len-ready.ensures, c.wake_flags.new.ready.ok, c.self.inside.ready.ok) in
    let promised = rw phase at i.promised_is in
    let room = rw phase at i.room in
    let nodes = live-end s.stood.nodes node in
    let queued = ap (λ (xs : List ℕ). length xs) c.wake_those.ensures.ready ∙ length-append c.wake_flags.new.ready.items (those waiter) in
    rw (state, begin)
    record {
      clock_is = i.clock_is;
      numbers_are = i.numbers_are;
      root_is = i.root_is;
      left_is = i.left_is;
      panicked_is = i.panicked_is;
      nodes_are = ap (λ r. unflagged (with_end r node)) i.nodes_are ∙ sym (c.wake_flags.ensures.tree ∙ ap (λ r. unflagged r) ended);
      labels_are = i.labels_are;
      closing_is = rw phase at i.closing_is;
      ready_is = rw (c.wake_those.ensures.ready, c.wake_flags.ensures.ready, i.ready_is) refl;
      alarms_are = i.alarms_are;
      marks_are = rw (c.remove.ensures.items, flag_is) refl;
      results_are = rw (c.end_result-before.ensures.items, ← i.results_are, c.is_missing-closes.ensures) refl;
      slots_are = i.slots_are;
      signals_are = i.signals_are;
      stop_is = i.stop_is;
      nobody_met = i.nobody_met;
      none_announced = refl;
      none_drawn = i.none_drawn;
      none_owed = refl;
      all_ended = λ closing. absurd (not-both c.self.inside.closing closing (rw phase at i.closing_is));
      label_next = rw (c.wake_flags.ensures.tree, ended, length-end c.self.inside.tree node) i.label_next;
      mark_next = c.remove.ensures.next ∙ c.wake_flags.ensures.next ∙ i.mark_next;
      result_next = c.end_result-before.ensures.next ∙ i.result_next;
      sender_next = i.sender_next;
      promised_is = omega (arith, own_mark, marks, results, place, flags, promised, nodes);
      room = omega (arith, own_mark, marks, results, place, waits, flags, promised, room, c.push.ensures.spare, c.wake_flags.ensures.spare, c.wake_those.ensures.spare);
      ready_room = omega (arith, i.ready_room, grown, queued, waits, place, flags, c.wake_those.ensures.capacity, c.wake_flags.ensures.capacity, c.wake_those.new.ready.ok, c.wake_flags.new.ready.ok, c.self.inside.ready.ok);
      fit = i.fit;
      within = i.within;
    }

pub returns-clause-calm : goal.returns-clause-calm
returns-clause-calm c =
    rw (← c.self.view_is) (calmly-calmly _ _ _ (calmly-one _ _ _ c.push.ensures.told refl) (calmly-calmly _ _ _ c.wake_flags.ensures.calm c.wake_those.ensures.calm))

pub returns-clause-gone : goal.returns-clause-gone
returns-clause-gone c =
    let s = c.self.inside.journal.told.state in
    let i = c.self.invariant in
    let task = c.args.task in
    let own = c.args.own in
    let node = c.get-node.result in
    let phase : s.phase ≡ Leaving task own (left_of s.phase) = rw (← c.self.view_is) at c.requires.phase in
    let pushed_state = ap (λ (t : Told). t.state) c.push.ensures.told ∙ node-ended s task own (left_of s.phase) node phase in
    let ended : c.end.new.self ≡ with_end c.self.inside.tree node = c.end.ensures.ended in
    let due = due_all c.end.new.self.flags c.self.inside.marks.items in
    let due_is : due_all (flagged_by s.stood.nodes node) s.marks ≡ due = rw (i.nodes_are, i.marks_are, ended) refl in
    let waiter = c.waiter_of-waiter.result.0 in
    let wakes_waiter : those waiter ≡ ended_waiting None (is_none own) (find task s.stood.results) = rw (c.waiter_of-waiter.ensures.waiter, i.results_are, ← c.is_missing-closes.ensures) c.end_result-before.ensures.waiting in
    let owed : c.push.new.self.told.state.owed ≡ due ++ those waiter = ap (λ (x : State). x.owed) pushed_state ∙ rw (due_is, wakes_waiter) refl in
    let after_flags = c.wake_flags.ensures.state (those waiter) owed in
    let owed_waiter = ap (λ (x : State). x.owed) after_flags ∙ sym (append-nil (those waiter)) in
    let state = c.wake_those.ensures.state [] owed_waiter ∙ ap (λ (x : State). record x { ready = x.ready ++ those waiter; owed = [] }) (after_flags ∙ ap (λ (x : State). record x { ready = x.ready ++ due; owed = those waiter }) pushed_state) in
    let begin = c.wake_those.ensures.begin ∙ c.wake_flags.ensures.begin ∙ ap (λ (t : Told). t.begin) c.push.ensures.told in
    rw (← c.self.view_is)
    record {
      phase = ap (λ (x : State). x.phase) state;
      begin = begin;
      given = c.wake_those.ensures.given ∙ c.wake_flags.ensures.given ∙ ap (λ (t : Told). t.given) c.push.ensures.told;
      clock = ap (λ (x : State). x.clock) state;
      root = ap (λ (x : State). x.root) state;
      numbers = ap (λ (x : State). x.numbers) state;
      running = ap (λ (x : State). x.running) state;
      results = ap (λ (x : State). x.stood.results) state;
      slots = ap (λ (x : State). x.stood.slots) state;
      lacked = c.wake_those.ensures.lacked ∙ c.wake_flags.ensures.lacked ∙ c.push.ensures.lacked;
    }
