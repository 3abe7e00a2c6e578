use Rattle.std.proofs.Common.{◌≡◌, ◌≤◌, ◌++◌, length}
use Rattle.std.specs.List.{concat}
use Rattle.std.specs.VecDeque.{deque_len}
use Rattle.rt_bufs.proofs.io_bufs.IoBufs.copied.Given as goal

abbrev pub invariant-loop-chunk : goal.invariant-loop-chunk
invariant-loop-chunk l = (l.all.bytes ++ concat l.chunks.items ≡ l.fn.self.bytes) × (length l.fn.self.bytes ≤ l.all.capacity)

abbrev pub decreases-loop-chunk : goal.decreases-loop-chunk
decreases-loop-chunk l = deque_len l.chunks
