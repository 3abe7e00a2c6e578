use Rattle.rt_buffer.proofs.Prelude.{◌≡◌, length, map, take}
use Rattle.rt_buffer.proofs.pieces.lengths.Given as goal

abbrev pub invariant-loop-index : goal.invariant-loop-index
invariant-loop-index l = l.lengths.items ≡ map length (take l.index l.bufs.chunks)
