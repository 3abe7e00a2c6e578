use Rattle.std.proofs.Common.{◌<◌, ◌≤◌, ◌-◌, ◌+◌, vec_len}
use Rattle.rt_base.proofs.Outsides.{ReadSoFar}
use Rattle.rt_base.proofs.whole.read_whole.Given as goal

-- the bytes so far are the first ones, and the others are left
abbrev pub invariant-loop-source : goal.invariant-loop-source
invariant-loop-source g l =
    (0 < vec_len l.piece)
    × (g.S.Source.faults l.fn.source ≤ g.S.Source.faults l.source)
    × ReadSoFar (g.S.Source.left l.fn.source) l.bytes.items (vec_len l.bytes) (g.S.Source.left l.source)

abbrev pub decreases-loop-source : goal.decreases-loop-source
decreases-loop-source g l = l.limit + 1 - vec_len l.bytes
