use Rattle.rt_laws.proofs.Panicking.{no_poll}
use Rattle.rt_laws.proofs.panics.near_misses_of_panics_are_not_lawful.Goals as goal

pub returns : goal.returns
returns c = record { polled = no_poll }
