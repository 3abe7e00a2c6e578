use Rattle.rt_machine.proofs.Announced.{may-stopped}
use Rattle.rt_machine.proofs.machine.Machine.stopped.Goals as goal

pub note-requires-clause-may : goal.note-requires-clause-may
note-requires-clause-may c =
    rw (c.in-Ok.ensures.told, c.in-Ok-stopped_event.ensures) (may-stopped c.self.inside.journal.told.state c.args.by (rw (← c.self.view_is) at c.requires) c.self.invariant.none_owed c.self.invariant.none_announced)
