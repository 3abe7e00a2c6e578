use Rattle.rt_laws.proofs.FirstStop.{unstopped, shown, first, stays, later, polled, still_open}
use Rattle.rt_laws.proofs.Grouped.{given, group, copied, kept}
use Rattle.rt_laws.proofs.signaling.each_signal_of_the_shutdown_shows_the_first_value.Goals as goal

pub returns-clause-given : goal.returns-clause-given
returns-clause-given c = given

pub returns-clause-group : goal.returns-clause-group
returns-clause-group c = group

pub returns-clause-copied : goal.returns-clause-copied
returns-clause-copied c = copied

pub returns-clause-kept : goal.returns-clause-kept
returns-clause-kept c = kept

pub returns-clause-before : goal.returns-clause-before
returns-clause-before c = unstopped

pub returns-clause-first : goal.returns-clause-first
returns-clause-first c = first

pub returns-clause-stays : goal.returns-clause-stays
returns-clause-stays c = stays

pub returns-clause-shown : goal.returns-clause-shown
returns-clause-shown c = shown

pub returns-clause-polled : goal.returns-clause-polled
returns-clause-polled c = polled

pub returns-clause-later : goal.returns-clause-later
returns-clause-later c = later

pub returns-clause-open : goal.returns-clause-open
returns-clause-open c = still_open
