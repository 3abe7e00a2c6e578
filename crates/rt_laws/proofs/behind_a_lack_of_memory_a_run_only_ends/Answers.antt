use Rattle.rt_laws.proofs.Behind.{poll_is_last, end_is_whole}
use Rattle.rt_laws.proofs.behind_a_lack_of_memory_a_run_only_ends.Goals as goal

pub returns-clause-polls : goal.returns-clause-polls
returns-clause-polls g c = poll_is_last g.row.A.Denot g.row.O.Denot

pub returns-clause-ends : goal.returns-clause-ends
returns-clause-ends g c = end_is_whole g.row.A.Denot g.row.O.Denot
