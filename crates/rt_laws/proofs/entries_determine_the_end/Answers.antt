use Rattle.rt_laws.proofs.Same.{alike_begin, same_cause, same_end}
use Rattle.rt_laws.proofs.entries_determine_the_end.Goals as goal

pub returns-clause-beginning : goal.returns-clause-beginning
returns-clause-beginning g c = alike_begin g.row.A.Denot g.row.B.Denot g.row.O.Denot g.row.P.Denot

pub returns-clause-cause : goal.returns-clause-cause
returns-clause-cause g c = same_cause g.row.A.Denot g.row.B.Denot g.row.O.Denot g.row.P.Denot

pub returns-clause-end : goal.returns-clause-end
returns-clause-end g c = same_end g.row.A.Denot g.row.B.Denot g.row.O.Denot g.row.P.Denot
