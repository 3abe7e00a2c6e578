use Rattle.rt_laws.proofs.Others.{poll_keeps, end_keeps}
use Rattle.rt_laws.proofs.lacking_memory_keeps_the_other_tasks.Goals as goal

pub returns-clause-polls : goal.returns-clause-polls
returns-clause-polls g c = poll_keeps g.row.A.Denot g.row.O.Denot

pub returns-clause-ends : goal.returns-clause-ends
returns-clause-ends g c = end_keeps g.row.A.Denot g.row.O.Denot
