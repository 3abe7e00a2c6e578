use Rattle.rt_laws.proofs.Stays.{run_gone}
use Rattle.rt_laws.proofs.a_due_alarm_has_fired.Goals as goal

pub returns : goal.returns
returns c = run_gone
