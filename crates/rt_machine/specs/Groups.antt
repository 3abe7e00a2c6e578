-- The groups of signals that a machine keeps.
use Rattle.std.specs.Prelude.{ℕ, List}
use Rattle.rt_super.specs.Signals.{SignalRecord, StopRecord}

-- the groups, the shutdown, and those whom the last call met and nobody woke yet
pub record Grouped : Type 0 where
  pub told : SignalRecord
  pub stop : StopRecord
  pub woken : List ℕ

abbrev pub grouped : SignalRecord → StopRecord → List ℕ → Grouped
grouped told stop woken = record { told = told; stop = stop; woken = woken }
