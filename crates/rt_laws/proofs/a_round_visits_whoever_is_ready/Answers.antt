use Rattle.rt_laws.proofs.Rounds.{run_visits}
use Rattle.rt_laws.proofs.a_round_visits_whoever_is_ready.Goals as goal

pub returns : goal.returns
returns c = run_visits
