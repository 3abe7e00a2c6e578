use Rattle.rt_store.proofs.Prelude.{◌≡◌, ◌+◌, numbers, all_detached, count_later}
use Rattle.rt_store.proofs.files.Files.detach_all.Given as goal

abbrev pub invariant-loop-place : goal.invariant-loop-place
invariant-loop-place l =
    (all_detached l.place-iterator l.self ≡ all_detached (numbers l.names) l.fn.self)
    × (count_later l.self + l.fewer ≡ count_later l.fn.self)
