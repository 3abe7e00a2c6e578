use Rattle.rt_store.proofs.Prelude.{◌≡◌, ◌≤◌, length, All, vec_capacity, all_undone, HasRoom}
use Rattle.rt_store.proofs.crash.restore.Given as goal

abbrev pub invariant-loop-last : goal.invariant-loop-last
invariant-loop-last l =
    (all_undone l.rest l.content.items ≡ all_undone l.fn.later l.fn.content.items)
    × All (HasRoom (vec_capacity l.fn.content)) l.rest
    × (vec_capacity l.fn.content ≤ vec_capacity l.content)

abbrev pub decreases-loop-last : goal.decreases-loop-last
decreases-loop-last l = length l.rest
