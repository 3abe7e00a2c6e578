use Rattle.rt_laws.proofs.Numbers.{run_distinct}
use Rattle.rt_laws.proofs.alarms_have_numbers_of_their_own.Goals as goal

pub returns : goal.returns
returns c = run_distinct
