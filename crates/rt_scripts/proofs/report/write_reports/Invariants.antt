use Rattle.rt_scripts.proofs.Prelude.{◌≡◌, ◌≤◌, ◌++◌, ℕ, List, All, length, Appends, StandsIn, reports_text}
use Rattle.rt_scripts.proofs.report.write_reports.Given as goal

abbrev pub invariant-loop-run : goal.invariant-loop-run
invariant-loop-run g l = record {
  text : List ℕ;
  wrote : Appends (g.K.Sink8.held l.fn.sink) text (g.K.Sink8.held l.sink);
  rest : text ++ reports_text l.rest l.fn.entries ≡ reports_text l.fn.runs l.fn.entries;
  counted : g.K.Sink8.faults l.fn.sink ≤ g.K.Sink8.faults l.sink;
  within : All (StandsIn (length l.fn.entries)) l.rest;
}

abbrev pub decreases-loop-run : goal.decreases-loop-run
decreases-loop-run g l = length l.rest
