use Rattle.rt_laws.proofs.Runs.{wakes_behind_its_alarm, fires_within}
use Rattle.rt_laws.proofs.examples.near_misses_are_lawful_but_for_one_place.Goals as goal

pub returns-clause-wake : goal.returns-clause-wake
returns-clause-wake c = wakes_behind_its_alarm

pub returns-clause-fire : goal.returns-clause-fire
returns-clause-fire c = fires_within
