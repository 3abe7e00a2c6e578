use Rattle.rt_laws.proofs.Lacked.{spawned_so, sent_so}
use Rattle.rt_laws.proofs.examples.what_was_made_before_a_lack_is_held.Goals as goal

pub returns-clause-spawned : goal.returns-clause-spawned
returns-clause-spawned c = spawned_so

pub returns-clause-sent : goal.returns-clause-sent
returns-clause-sent c = sent_so
