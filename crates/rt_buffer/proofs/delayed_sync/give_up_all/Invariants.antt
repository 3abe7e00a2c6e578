use Rattle.rt_buffer.proofs.Prelude.{vec_len, GivesUpAll}
use Rattle.rt_buffer.proofs.delayed_sync.give_up_all.Given as goal

abbrev pub invariant-loop-stage : goal.invariant-loop-stage
invariant-loop-stage g l =
    g.S.Storage.callable l.inner × ((new : _) → GivesUpAll g.S.Storage l.tickets.items l.inner new → GivesUpAll g.S.Storage l.fn.tickets.items l.fn.inner new)

abbrev pub decreases-loop-stage : goal.decreases-loop-stage
decreases-loop-stage g l = vec_len l.tickets
