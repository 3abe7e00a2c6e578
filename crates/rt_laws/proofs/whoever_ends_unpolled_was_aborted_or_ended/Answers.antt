use Rattle.rt_laws.proofs.Under.{unpolled}
use Rattle.rt_laws.proofs.whoever_ends_unpolled_was_aborted_or_ended.Goals as goal

pub returns : goal.returns
returns c = unpolled
