use Rattle.rt_super.proofs.Prelude.{sym}
use Rattle.rt_super.proofs.AlarmLemmas.{first_due_is}
use Rattle.rt_super.proofs.alarms.Alarms.earliest.Goals as goal

pub returns-clause-first : goal.returns-clause-first
returns-clause-first c = rw (← c.self.view_is) (sym (first_due_is c.self.inside.tasks _ c.in_ok-key.ensures.first))
