use Rattle.rt_store.proofs.Prelude.{◌≡◌, ◌<◌, ℕ, None, length, get_or, into_iter_items, are_below, last_at, last_or}
use Rattle.rt_store.proofs.collecting.slots_of.Given as goal

abbrev pub invariant-loop-place : goal.invariant-loop-place
invariant-loop-place l =
    (length l.slots.items ≡ l.ranges)
    × (are_below l.ranges (into_iter_items l.place-iterator) ≡ are_below l.ranges l.fn.reads.items)
    × ((i : ℕ) → i < l.ranges → last_or i (into_iter_items l.place-iterator) (get_or l.slots.items i None) ≡ last_at i l.fn.reads.items)
