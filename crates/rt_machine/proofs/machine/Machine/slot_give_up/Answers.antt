use Rattle.rt_machine.proofs.Gone.{spent-gone}
use Rattle.rt_machine.proofs.machine.Machine.slot_give_up.Goals as goal

pub returns-clause-gone : goal.returns-clause-gone
returns-clause-gone c = spent-gone c.args.by _ _ c.args.slot (rw (← c.self.view_is, c.self.invariant.slots_are) c.facts.ensures.rising) c.spend.ensures
