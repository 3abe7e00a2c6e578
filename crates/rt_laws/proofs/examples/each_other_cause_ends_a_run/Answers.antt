use Rattle.rt_laws.proofs.Ends.{stalled_run, late_run, at_once_late_run, overflow_run, no_number_run}
use Rattle.rt_laws.proofs.examples.each_other_cause_ends_a_run.Goals as goal

pub returns-clause-stalled : goal.returns-clause-stalled
returns-clause-stalled c = stalled_run

pub returns-clause-late : goal.returns-clause-late
returns-clause-late c = late_run

pub returns-clause-at_once_late : goal.returns-clause-at_once_late
returns-clause-at_once_late c = at_once_late_run

pub returns-clause-overflow : goal.returns-clause-overflow
returns-clause-overflow c = overflow_run

pub returns-clause-no_number : goal.returns-clause-no_number
returns-clause-no_number c = no_number_run
