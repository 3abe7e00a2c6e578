use Rattle.rt_laws.proofs.Panicking.{reported_run, its_text}
use Rattle.rt_laws.proofs.panics.a_reported_panic_has_its_run.Goals as goal

pub returns-clause-run : goal.returns-clause-run
returns-clause-run c = reported_run

pub returns-clause-text : goal.returns-clause-text
returns-clause-text c = its_text
