use Rattle.rt_laws.proofs.Ranges.{run_outside}
use Rattle.rt_laws.proofs.no_cleanup_in_the_midst_of_a_poll.Goals as goal

pub returns : goal.returns
returns c = run_outside
