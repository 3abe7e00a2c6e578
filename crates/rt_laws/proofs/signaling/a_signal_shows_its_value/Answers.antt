use Rattle.rt_laws.proofs.Signals.{signaling_run}
use Rattle.rt_laws.proofs.signaling.a_signal_shows_its_value.Goals as goal

pub returns : goal.returns
returns c = signaling_run
