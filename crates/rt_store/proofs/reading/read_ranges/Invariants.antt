use Rattle.rt_store.proofs.Prelude.{◌≡◌, ◌++◌, length, map, WritableChunks, bytes_of, lengths_of, ranges_of, ranges_refusal}
use Rattle.rt_store.proofs.reading.read_ranges.Given as goal

abbrev pub invariant-loop-offset : goal.invariant-loop-offset
invariant-loop-offset l =
    (bytes_of l.bufs.items ++ ranges_of l.rest l.content ≡ ranges_of l.fn.ranges l.content)
    × (map (λ (b : WritableChunks). length b.bytes) l.bufs.items ++ lengths_of l.rest ≡ lengths_of l.fn.ranges)
    × (ranges_refusal l.rest (length l.content) ≡ ranges_refusal l.fn.ranges (length l.content))

abbrev pub decreases-loop-offset : goal.decreases-loop-offset
decreases-loop-offset l = length l.rest
