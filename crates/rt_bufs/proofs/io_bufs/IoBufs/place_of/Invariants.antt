use Rattle.std.proofs.Common.{◌≡◌, ◌+◌, length, take}
use Rattle.std.specs.List.{concat}
use Rattle.rt_bufs.proofs.io_bufs.IoBufs.place_of.Given as goal

abbrev pub invariant-loop-index : goal.invariant-loop-index
invariant-loop-index l = length (concat (take l.index l.self-inside.chunks.items)) + l.left ≡ l.fn.n
