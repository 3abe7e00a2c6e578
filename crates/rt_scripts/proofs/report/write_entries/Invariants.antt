use Rattle.rt_scripts.proofs.Prelude.{◌≡◌, ◌≤◌, ◌++◌, ℕ, List, drop, string_bytes, entries_text, IsWritten}
use Rattle.rt_scripts.proofs.report.write_entries.Given as goal

abbrev pub invariant-loop-entry : goal.invariant-loop-entry
invariant-loop-entry g l =
    (text : List ℕ) × IsWritten (g.K.Sink8.held l.fn.sink) text (g.K.Sink8.held l.sink) (string_bytes l.buffer) × (text ++ entries_text (drop l.entry-index l.entries) ≡ string_bytes l.fn.buffer ++ entries_text l.entries) × (g.K.Sink8.faults l.fn.sink ≤ g.K.Sink8.faults l.sink)
