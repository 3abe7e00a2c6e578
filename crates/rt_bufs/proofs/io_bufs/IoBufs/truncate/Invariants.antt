use Rattle.std.proofs.Common.{◌≡◌, ◌-◌, ◌≤◌, length, take}
use Rattle.rt_bufs.proofs.io_bufs.IoBufs.truncate.Given as goal

abbrev pub invariant-loop-left : goal.invariant-loop-left
invariant-loop-left l = (l.left ≤ length l.self.bytes) × (take (length l.self.bytes - l.left) l.self.bytes ≡ take l.fn.len l.fn.self.bytes)

abbrev pub decreases-loop-left : goal.decreases-loop-left
decreases-loop-left l = l.left
