use Rattle.rt_machine.proofs.Prelude.{◌≡◌, ◌∙◌, ◌++◌, ◌∷◌, sym, ap, arith, drop, append_assoc, length-append, with_flag_taken, State, due_all, due_of, flag, flag_all}
use Rattle.rt_machine.proofs.Calm.{calmly-calmly, first-flag}
use Rattle.rt_machine.proofs.wakes.wake_flags.Goals as goal

pub wake_due-requires-clause-owed : goal.wake_due-requires-clause-owed
wake_due-requires-clause-owed c =
    let k = c.loop-task in
    let task = c.in-Some.task in
    let flags : k.tree.flags ≡ task ∷ drop 1 k.tree.flags = first-flag k.tree.flags task (sym c.next_flag.ensures.first ∙ c.in-Some.is) in
    let rest = c.requires.owed.0 in
    let owed : k.journal.told.state.owed ≡ due_all k.tree.flags k.marks.items ++ rest = ap (λ (s : State). s.owed) (k.invariant.state rest c.requires.owed.1) in
    let more : due_all k.tree.flags k.marks.items ≡ due_of task k.marks.items ++ due_all (drop 1 k.tree.flags) (flag task k.marks.items) = ap (λ xs. due_all xs k.marks.items) flags in
    let later = due_all (drop 1 k.tree.flags) (flag task k.marks.items) in
    (later ++ rest, owed ∙ ap (λ xs. xs ++ rest) more ∙ append_assoc (due_of task k.marks.items) later rest)

pub loop-task-preserved : goal.loop-task-preserved
loop-task-preserved c =
    let k = c.loop-task in
    let i = k.invariant in
    let task = c.in-Some.task in
    let w = c.wake_due.ensures in
    let flags : k.tree.flags ≡ task ∷ drop 1 k.tree.flags = first-flag k.tree.flags task (sym c.next_flag.ensures.first ∙ c.in-Some.is) in
    let taken : c.next_flag.new.self ≡ with_flag_taken k.tree = c.next_flag.ensures.taken in
    let due = due_of task k.marks.items in
    let later = due_all (drop 1 k.tree.flags) (flag task k.marks.items) in
    let more : due_all k.tree.flags k.marks.items ≡ due ++ later = ap (λ xs. due_all xs k.marks.items) flags in
    let old = c.args.journal.now.told.state in
    let fewer = rw w.items at w.places in
    rw (taken, w.items)
    record {
      calm = calmly-calmly _ _ _ i.calm w.calm;
      done = i.done ++ due;
      due = i.due ∙ ap (λ xs. i.done ++ xs) more ∙ sym (append_assoc i.done due later);
      state = λ rest e.
          let before = i.state rest e in
          let owed : k.journal.told.state.owed ≡ due ++ (later ++ rest) = ap (λ (x : State). x.owed) before ∙ ap (λ xs. xs ++ rest) more ∙ append_assoc due later rest in
          w.state (later ++ rest) owed
          ∙ ap (λ (x : State). record x { ready = x.ready ++ due; owed = later ++ rest }) before
          ∙ ap (λ xs. record old { ready = xs; owed = later ++ rest }) (append_assoc old.ready i.done due);
      begin = w.begin ∙ i.begin;
      given = w.given ∙ i.given;
      lacked = w.lacked ∙ i.lacked;
      ready = w.ready ∙ ap (λ xs. xs ++ due) i.ready ∙ append_assoc c.args.ready.now.items i.done due;
      capacity = w.capacity ∙ i.capacity;
      items = sym (ap (λ xs. flag_all xs k.marks.items) flags) ∙ i.items;
      next = w.next ∙ i.next;
      spare = omega (arith, i.spare, w.spare, length-append i.done due);
      places = omega (arith, i.places, fewer, length-append i.done due);
      tree = i.tree;
    }
