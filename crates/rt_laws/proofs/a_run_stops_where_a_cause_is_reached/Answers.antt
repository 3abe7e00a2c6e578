use Rattle.rt_laws.proofs.Stopping.{stops, takes_no_root}
use Rattle.rt_laws.proofs.a_run_stops_where_a_cause_is_reached.Goals as goal

pub returns-clause-stops : goal.returns-clause-stops
returns-clause-stops c = stops

pub returns-clause-maker : goal.returns-clause-maker
returns-clause-maker c = takes_no_root
