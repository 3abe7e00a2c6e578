use Rattle.rt_buffer.proofs.Prelude.{◌≡◌, ◌++◌, length, map, cut}
use Rattle.rt_buffer.proofs.pieces.taken_apart.Given as goal

abbrev pub invariant-loop-length : goal.invariant-loop-length
invariant-loop-length l =
    (l.chunks.items ++ cut l.rest l.bufs.bytes ≡ cut l.fn.lengths l.fn.bufs.bytes)
    × (map length (cut l.rest l.bufs.bytes) ≡ l.rest)

abbrev pub decreases-loop-length : goal.decreases-loop-length
decreases-loop-length l = length l.rest
