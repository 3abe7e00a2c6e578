use Rattle.rt_laws.proofs.Panicking.{caught_run}
use Rattle.rt_laws.proofs.panics.a_caught_panic_has_its_run.Goals as goal

pub returns : goal.returns
returns c = caught_run
