use Rattle.std.proofs.Common.{◌<◌, ◌≤◌}
use Rattle.std.specs.Io.KnownBytes.{Keeps}
use Rattle.rt_base.specs.Outside.{HasRisen}
use Rattle.rt_base.proofs.retried.read_retried.Given as goal

-- the tries so far took nothing, and each raised the count
abbrev pub invariant-loop : goal.invariant-loop
invariant-loop g l =
    Keeps (g.R.Read.remaining l.fn.reader) (g.R.Read.remaining l.reader)
    × (l.fn.errors ≤ l.errors)
    × (0 < l.counter → HasRisen l.fn.errors l.errors)
