use Rattle.rt_laws.proofs.Prelude.{refl}
use Rattle.rt_laws.proofs.Audited.{visit_told}
use Rattle.rt_laws.proofs.auditing.an_auditor_tells_four_zeros_at_first.Goals as goal

pub returns-clause-zeros : goal.returns-clause-zeros
returns-clause-zeros c = (tt, (refl, tt))

pub returns-clause-other : goal.returns-clause-other
returns-clause-other c bytes other d = other d.1.0

pub returns-clause-behind : goal.returns-clause-behind
returns-clause-behind c = visit_told
