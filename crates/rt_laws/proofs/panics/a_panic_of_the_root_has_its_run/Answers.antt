use Rattle.rt_laws.proofs.Panicking.{panicking_run}
use Rattle.rt_laws.proofs.panics.a_panic_of_the_root_has_its_run.Goals as goal

pub returns : goal.returns
returns c = λ catch text. panicking_run text catch
