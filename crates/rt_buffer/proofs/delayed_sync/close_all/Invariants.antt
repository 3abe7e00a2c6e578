use Rattle.rt_buffer.proofs.Prelude.{vec_len, ClosesAll}
use Rattle.rt_buffer.proofs.delayed_sync.close_all.Given as goal

abbrev pub invariant-loop-place : goal.invariant-loop-place
invariant-loop-place g l =
    g.S.Storage.callable l.inner × ((new : _) → ClosesAll g.S.Storage l.blobs.items l.inner new → ClosesAll g.S.Storage l.fn.blobs.items l.fn.inner new)

abbrev pub decreases-loop-place : goal.decreases-loop-place
decreases-loop-place g l = vec_len l.blobs
