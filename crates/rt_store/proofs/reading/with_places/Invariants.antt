use Rattle.rt_store.proofs.Prelude.{◌≡◌, ◌++◌, length, into_iter_items, bytes_of, placed, placed_bytes}
use Rattle.rt_store.proofs.reading.with_places.Given as goal

abbrev pub invariant-loop-buf : goal.invariant-loop-buf
invariant-loop-buf l = placed_bytes l.reads.items ++ placed (length l.reads.items) (bytes_of (into_iter_items l.buf-iterator)) ≡ placed 0 (bytes_of l.fn.bufs.items)
