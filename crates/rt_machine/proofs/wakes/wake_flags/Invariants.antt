use Rattle.rt_machine.proofs.Prelude.{◌≡◌, ◌+◌, ◌++◌, length, List, ℕ, vec_capacity, total, due_all, flag_all, unflagged, Calmly, mark_places}
use Rattle.rt_machine.proofs.wakes.wake_flags.Given as goal

abbrev pub invariant-loop-task : goal.invariant-loop-task
invariant-loop-task l =
    let old = l.fn.journal.told.state in
    let now = l.journal.told.state in
    record {
      calm : Calmly l.fn.journal.told l.journal.told;
      done : List ℕ;
      due : due_all l.fn.tree.flags l.fn.marks.items ≡ done ++ due_all l.tree.flags l.marks.items;
      state : (rest : List ℕ) → old.owed ≡ due_all l.fn.tree.flags l.fn.marks.items ++ rest → now ≡ record old { ready = old.ready ++ done; owed = due_all l.tree.flags l.marks.items ++ rest };
      begin : l.journal.told.begin ≡ l.fn.journal.told.begin;
      given : l.journal.told.given ≡ l.fn.journal.told.given;
      lacked : l.journal.lacked ≡ l.fn.journal.lacked;
      ready : l.ready.items ≡ l.fn.ready.items ++ done;
      capacity : vec_capacity l.ready ≡ vec_capacity l.fn.ready;
      items : flag_all l.tree.flags l.marks.items ≡ flag_all l.fn.tree.flags l.fn.marks.items;
      next : l.marks.next ≡ l.fn.marks.next;
      spare : l.journal.spare + length done ≡ l.fn.journal.spare;
      places : total mark_places l.marks.items + length done ≡ total mark_places l.fn.marks.items;
      tree : unflagged l.tree ≡ unflagged l.fn.tree;
    }

abbrev pub decreases-loop-task : goal.decreases-loop-task
decreases-loop-task l = length l.tree.flags
