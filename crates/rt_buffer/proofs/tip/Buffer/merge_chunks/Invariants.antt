use Rattle.rt_buffer.proofs.Prelude.{◌≡◌, length, merged_chunks}
use Rattle.rt_buffer.proofs.tip.Buffer.merge_chunks.Given as goal

abbrev pub invariant-loop-self : goal.invariant-loop-self
invariant-loop-self l = merged_chunks l.self l.left.at l.left.chunks ≡ merged_chunks l.fn.self l.fn.left.at l.fn.left.chunks

abbrev pub decreases-loop-self : goal.decreases-loop-self
decreases-loop-self l = length l.left.chunks
