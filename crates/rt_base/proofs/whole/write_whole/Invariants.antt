use Rattle.std.proofs.Common.{◌≤◌, ◌-◌, length, take}
use Rattle.rt_base.specs.Outside.{Appends}
use Rattle.rt_base.proofs.whole.write_whole.Given as goal

-- the first bytes of the piece are written
abbrev pub invariant-loop-written : goal.invariant-loop-written
invariant-loop-written g l =
    (l.written ≤ length l.piece)
    × (g.K.Sink8.faults l.fn.sink ≤ g.K.Sink8.faults l.sink)
    × Appends (g.K.Sink8.held l.fn.sink) (take l.written l.piece) (g.K.Sink8.held l.sink)

abbrev pub decreases-loop-written : goal.decreases-loop-written
decreases-loop-written g l = length l.piece - l.written
