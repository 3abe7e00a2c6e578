use Rattle.std.proofs.Common.{◌<◌, ◌≤◌}
use Rattle.std.specs.Io.KnownBytes.{Keeps}
use Rattle.rt_base.specs.Outside.{HasRisen}
use Rattle.rt_base.proofs.retried.write_retried.Given as goal

-- the tries so far wrote nothing, and each raised the count
abbrev pub invariant-loop : goal.invariant-loop
invariant-loop g l =
    Keeps (g.W.Write.contents l.fn.writer) (g.W.Write.contents l.writer)
    × (l.fn.errors ≤ l.errors)
    × (0 < l.counter → HasRisen l.fn.errors l.errors)
