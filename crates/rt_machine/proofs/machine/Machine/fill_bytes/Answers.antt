use Rattle.rt_machine.proofs.Prelude.{refl, FillBytes}
use Rattle.rt_machine.proofs.Announced.{may-drawing}
use Rattle.rt_machine.proofs.machine.Machine.fill_bytes.Goals as goal

pub note-requires-clause-may : goal.note-requires-clause-may
note-requires-clause-may g c =
    rw (c.in-Ok.ensures.told, c.in-Ok.ensures.event) (may-drawing c.self.inside.journal.told.state c.args.by (FillBytes 0) _ refl (rw (← c.self.view_is) at c.requires) c.self.invariant.none_owed c.self.invariant.none_announced)
