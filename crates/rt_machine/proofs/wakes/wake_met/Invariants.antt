use Rattle.rt_machine.proofs.Prelude.{◌≡◌, ◌+◌, ◌++◌, length, List, ℕ, vec_capacity}
use Rattle.rt_machine.proofs.wakes.wake_met.Given as goal

abbrev pub invariant-loop-task : goal.invariant-loop-task
invariant-loop-task l =
    let old = l.fn.journal.told.state in
    record {
      done : List ℕ;
      parts : l.fn.groups.woken ≡ done ++ l.groups.woken;
      state : l.journal.told.state ≡ record old { ready = old.ready ++ done; owed = l.groups.woken };
      begin : l.journal.told.begin ≡ l.fn.journal.told.begin;
      given : l.journal.told.given ≡ l.fn.journal.told.given;
      past : l.journal.told.past ≡ l.fn.journal.told.past;
      lacked : l.journal.lacked ≡ l.fn.journal.lacked;
      ready : l.ready.items ≡ l.fn.ready.items ++ done;
      capacity : vec_capacity l.ready ≡ vec_capacity l.fn.ready;
      spare : l.journal.spare + length done ≡ l.fn.journal.spare;
      told : l.groups.told ≡ l.fn.groups.told;
      stop : l.groups.stop ≡ l.fn.groups.stop;
    }

abbrev pub decreases-loop-task : goal.decreases-loop-task
decreases-loop-task l = length l.groups.woken
