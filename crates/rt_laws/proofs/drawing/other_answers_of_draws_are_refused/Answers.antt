use Rattle.rt_laws.proofs.Drawings.{no_refused_short, no_refused_long, no_refused_bytes, no_other_count}
use Rattle.rt_laws.proofs.drawing.other_answers_of_draws_are_refused.Goals as goal

pub returns-clause-short : goal.returns-clause-short
returns-clause-short c = no_refused_short

pub returns-clause-long : goal.returns-clause-long
returns-clause-long c = no_refused_long

pub returns-clause-bytes : goal.returns-clause-bytes
returns-clause-bytes c = no_refused_bytes

pub returns-clause-count : goal.returns-clause-count
returns-clause-count c = no_other_count
