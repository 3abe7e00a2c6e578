use Rattle.rt_world.proofs.Prelude.{refl, Slots, SlotClose}
use Rattle.rt_world.proofs.Calling.{spent-seated}
use Rattle.rt_world.proofs.Slotted.{slot-closed}
use Rattle.rt_world.proofs.world.World.slot_close.Goals as goal

pub invariant_of-self : goal.invariant_of-self
invariant_of-self g c =
    let w = c.self.inside in
    (spent-seated w.tasks w.outputs w.out w.out w.machine c.slot_close.new.self c.self.invariant.0 (Slots (SlotClose c.args.slot)) refl refl refl c.slot_close.ensures, slot-closed w.sent w.out w.machine c.slot_close.new.self c.self.invariant.1 c.args.slot c.slot_close.ensures)
