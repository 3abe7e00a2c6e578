use Rattle.rt_machine.proofs.Prelude.{◌≡◌, ◌≤◌, ◌+◌, ◌∙◌, ◌++◌, refl, sym, ap, arith, true, length, List, ℕ, [], append-nil, length-append, State, Ending, is_ended_at, find, has_number, those, total, left_of, ended_results, ended_waiting, panic_wakes, open_in, result_places, Told, waits-places}
use Rattle.rt_machine.proofs.Counts.{length-without, below-without}
use Rattle.rt_machine.proofs.Totals.{ended-fewer}
use Rattle.rt_machine.proofs.Nodes.{released-fewer, length-released}
use Rattle.rt_machine.proofs.Calm.{calmly-calmly}
use Rattle.rt_machine.proofs.Ended.{visit-ended, leaves-places}
use Rattle.rt_machine.proofs.Over.{over-released}
use Rattle.rt_machine.proofs.machine.Machine.finish_task.Goals as goal

pub wake_those-requires-clause-owed : goal.wake_those-requires-clause-owed
wake_those-requires-clause-owed c =
    let s = c.self.inside.journal.told.state in
    let i = c.self.invariant in
    let task = c.args.task in
    let own = c.args.own in
    let settles = c.is_settled-settles.result in
    let is : is_ended_at s.stood.nodes (find task s.marks) ≡ settles = sym (rw (← c.self.view_is) at c.is_settled-settles.ensures) in
    let phase : s.phase ≡ Ending task own (left_of s.phase) = rw (← c.self.view_is) at c.requires.phase in
    let pushed_state = ap (λ (t : Told). t.state) c.push.ensures.told ∙ visit-ended s task own (left_of s.phase) settles phase is in
    let root = c.panic_wakes-root.result.0 in
    let waiter = c.waiter_of-waiter.result.0 in
    let wakes_root : those root ≡ panic_wakes s own = rw (← c.self.view_is) at c.panic_wakes-root.ensures.root in
    let wakes_waiter : those waiter ≡ ended_waiting own settles (find task s.stood.results) = rw (c.waiter_of-waiter.ensures.waiter, i.results_are) c.end_result-before.ensures.waiting in
    let owed : c.push.new.self.told.state.owed ≡ those root ++ those waiter = ap (λ (x : State). x.owed) pushed_state ∙ rw (wakes_root, wakes_waiter) refl in
    (those waiter, owed)

pub wake_those-requires-2-clause-owed : goal.wake_those-requires-2-clause-owed
wake_those-requires-2-clause-owed c =
    let s = c.self.inside.journal.told.state in
    let i = c.self.invariant in
    let task = c.args.task in
    let own = c.args.own in
    let settles = c.is_settled-settles.result in
    let is : is_ended_at s.stood.nodes (find task s.marks) ≡ settles = sym (rw (← c.self.view_is) at c.is_settled-settles.ensures) in
    let phase : s.phase ≡ Ending task own (left_of s.phase) = rw (← c.self.view_is) at c.requires.phase in
    let pushed_state = ap (λ (t : Told). t.state) c.push.ensures.told ∙ visit-ended s task own (left_of s.phase) settles phase is in
    let root = c.panic_wakes-root.result.0 in
    let waiter = c.waiter_of-waiter.result.0 in
    let wakes_root : those root ≡ panic_wakes s own = rw (← c.self.view_is) at c.panic_wakes-root.ensures.root in
    let wakes_waiter : those waiter ≡ ended_waiting own settles (find task s.stood.results) = rw (c.waiter_of-waiter.ensures.waiter, i.results_are) c.end_result-before.ensures.waiting in
    let owed : c.push.new.self.told.state.owed ≡ those root ++ those waiter = ap (λ (x : State). x.owed) pushed_state ∙ rw (wakes_root, wakes_waiter) refl in
    let state = c.wake_those.ensures.state (those waiter) owed in
    ([], ap (λ (x : State). x.owed) state ∙ sym (append-nil (those waiter)))

pub invariant_of-self : goal.invariant_of-self
invariant_of-self c =
    let s = c.self.inside.journal.told.state in
    let i = c.self.invariant in
    let task = c.args.task in
    let own = c.args.own in
    let settles = c.is_settled-settles.result in
    let is : is_ended_at s.stood.nodes (find task s.marks) ≡ settles = sym (rw (← c.self.view_is) at c.is_settled-settles.ensures) in
    let phase : s.phase ≡ Ending task own (left_of s.phase) = rw (← c.self.view_is) at c.requires.phase in
    let pushed_state = ap (λ (t : Told). t.state) c.push.ensures.told ∙ visit-ended s task own (left_of s.phase) settles phase is in
    let root = c.panic_wakes-root.result.0 in
    let waiter = c.waiter_of-waiter.result.0 in
    let wakes_root : those root ≡ panic_wakes s own = rw (← c.self.view_is) at c.panic_wakes-root.ensures.root in
    let wakes_waiter : those waiter ≡ ended_waiting own settles (find task s.stood.results) = rw (c.waiter_of-waiter.ensures.waiter, i.results_are) c.end_result-before.ensures.waiting in
    let owed : c.push.new.self.told.state.owed ≡ those root ++ those waiter = ap (λ (x : State). x.owed) pushed_state ∙ rw (wakes_root, wakes_waiter) refl in
    let after_root = c.wake_those.ensures.state (those waiter) owed in
    let owed_waiter = ap (λ (x : State). x.owed) after_root ∙ sym (append-nil (those waiter)) in
    let state = c.wake_those-2.ensures.state [] owed_waiter ∙ ap (λ (x : State). record x { ready = x.ready ++ those waiter; owed = [] }) (after_root ∙ ap (λ (x : State). record x { ready = x.ready ++ those root; owed = those waiter }) pushed_state) in
    let begin = c.wake_those-2.ensures.begin ∙ c.wake_those.ensures.begin ∙ ap (λ (t : Told). t.begin) c.push.ensures.told in
    let runs : has_number task s.running ≡ true = rw (← c.self.view_is) at c.requires.runs in
    let fewer = length-without task s.running runs in
    let nodes = released-fewer (find task s.marks) s.stood.nodes in
    let marks = ended-fewer settles task s.marks in
    let results : total result_places (ended_results own settles task s.stood.results) + open_in c.end_result-before.result ≡ total result_places s.stood.results = rw (i.results_are, ← c.end_result-before.ensures.items) c.end_result-before.ensures.places in
    let place = c.waiter_of-waiter.ensures.places in
    let waits : length (those waiter) ≤ open_in c.end_result-before.result = rw c.waiter_of-waiter.ensures.waiter (waits-places c.end_result-before.result) in
    let panics = rw (← c.self.view_is) at c.panic_wakes-root.ensures.places in
    let fits = c.panic_wakes-root.ensures.fits in
    let shown = ap (λ (xs : List ℕ). length xs) (c.wake_those-2.ensures.ready ∙ ap (λ (xs : List ℕ). xs ++ those waiter) c.wake_those.ensures.ready) in
    let grown : length ((c.self.inside.ready.items ++ those root) ++ those waiter) ≡ length c.self.inside.ready.items + length (those root) + length (those waiter) = rw (length-append (c.self.inside.ready.items ++ those root) (those waiter), length-append c.self.inside.ready.items (those root)) refl in
    let leaves = leaves-places settles task own (left_of s.phase) in
    let promised = rw phase at i.promised_is in
    let room = rw phase at i.room in
    rw (state, begin)
    record {
      clock_is = i.clock_is;
      numbers_are = i.numbers_are;
      root_is = i.root_is;
      left_is = i.left_is;
      panicked_is = sym (rw (← c.self.view_is) at c.keeps_panic-kept.ensures);
      nodes_are = rw (c.leave_node.ensures.tree, ← i.nodes_are, ← i.marks_are) refl;
      labels_are = i.labels_are;
      closing_is = rw (leaves.2) (rw phase at i.closing_is);
      ready_is = rw (c.wake_those-2.ensures.ready, c.wake_those.ensures.ready, i.ready_is) refl;
      alarms_are = i.alarms_are;
      marks_are = rw (c.leave_node.ensures.items, ← i.marks_are) refl;
      results_are = rw (c.end_result-before.ensures.items, ← i.results_are) refl;
      slots_are = i.slots_are;
      signals_are = i.signals_are;
      stop_is = i.stop_is;
      nobody_met = i.nobody_met;
      none_announced = refl;
      none_drawn = i.none_drawn;
      none_owed = refl;
      all_ended = λ closing. over-released (find task s.marks) s.stood.nodes (i.all_ended closing);
      label_next = rw (c.leave_node.ensures.tree, length-released (find task c.self.inside.marks.items) c.self.inside.tree) i.label_next;
      mark_next = c.leave_node.ensures.next ∙ i.mark_next;
      result_next = c.end_result-before.ensures.next ∙ i.result_next;
      sender_next = i.sender_next;
      promised_is = omega (arith, fewer, nodes, marks, results, place, panics, leaves.1, promised);
      room = omega (arith, room, promised, fewer, nodes, marks, results, place, panics, fits, waits, leaves.0, c.push.ensures.spare, c.wake_those.ensures.spare, c.wake_those-2.ensures.spare);
      ready_room = omega (arith, i.ready_room, fits, waits, place, grown, shown, c.wake_those-2.ensures.capacity, c.wake_those.ensures.capacity, c.wake_those-2.new.ready.ok, c.self.inside.ready.ok);
      fit = below-without _ task s.running i.fit;
      within = i.within;
    }

pub returns-clause-calm : goal.returns-clause-calm
returns-clause-calm c =
    let told = c.push.ensures.told in
    rw (← c.self.view_is, ← told) (calmly-calmly _ _ _ c.wake_those.ensures.calm c.wake_those-2.ensures.calm)

pub returns-clause-left : goal.returns-clause-left
returns-clause-left c =
    let s = c.self.inside.journal.told.state in
    let i = c.self.invariant in
    let task = c.args.task in
    let own = c.args.own in
    let settles = c.is_settled-settles.result in
    let is : is_ended_at s.stood.nodes (find task s.marks) ≡ settles = sym (rw (← c.self.view_is) at c.is_settled-settles.ensures) in
    let phase : s.phase ≡ Ending task own (left_of s.phase) = rw (← c.self.view_is) at c.requires.phase in
    let pushed_state = ap (λ (t : Told). t.state) c.push.ensures.told ∙ visit-ended s task own (left_of s.phase) settles phase is in
    let root = c.panic_wakes-root.result.0 in
    let waiter = c.waiter_of-waiter.result.0 in
    let wakes_root : those root ≡ panic_wakes s own = rw (← c.self.view_is) at c.panic_wakes-root.ensures.root in
    let wakes_waiter : those waiter ≡ ended_waiting own settles (find task s.stood.results) = rw (c.waiter_of-waiter.ensures.waiter, i.results_are) c.end_result-before.ensures.waiting in
    let owed : c.push.new.self.told.state.owed ≡ those root ++ those waiter = ap (λ (x : State). x.owed) pushed_state ∙ rw (wakes_root, wakes_waiter) refl in
    let after_root = c.wake_those.ensures.state (those waiter) owed in
    let owed_waiter = ap (λ (x : State). x.owed) after_root ∙ sym (append-nil (those waiter)) in
    let state = c.wake_those-2.ensures.state [] owed_waiter ∙ ap (λ (x : State). record x { ready = x.ready ++ those waiter; owed = [] }) (after_root ∙ ap (λ (x : State). record x { ready = x.ready ++ those root; owed = those waiter }) pushed_state) in
    let begin = c.wake_those-2.ensures.begin ∙ c.wake_those.ensures.begin ∙ ap (λ (t : Told). t.begin) c.push.ensures.told in
    rw (← c.self.view_is)
    record {
      phase = ap (λ (x : State). x.phase) state;
      begin = begin;
      given = c.wake_those-2.ensures.given ∙ c.wake_those.ensures.given ∙ ap (λ (t : Told). t.given) c.push.ensures.told;
      clock = ap (λ (x : State). x.clock) state;
      root = ap (λ (x : State). x.root) state;
      numbers = ap (λ (x : State). x.numbers) state;
      running = ap (λ (x : State). x.running) state;
      marks = ap (λ (x : State). x.marks) state;
      results = ap (λ (x : State). x.stood.results) state;
      slots = ap (λ (x : State). x.stood.slots) state;
      lacked = c.wake_those-2.ensures.lacked ∙ c.wake_those.ensures.lacked ∙ c.push.ensures.lacked;
    }
