use Rattle.rt_world.proofs.Prelude.{◌∙◌, refl, sym, Slots, SlotGiveUp, Done, Noted}
use Rattle.rt_world.proofs.Calling.{seated-quiet}
use Rattle.rt_world.proofs.Slotted.{unslotted}
use Rattle.rt_world.proofs.world.World.slot_give_up.Goals as goal

pub invariant_of-self : goal.invariant_of-self
invariant_of-self g c =
    let w = c.self.inside in
    let r = c.remove.ensures in
    let noted : Noted w.out w.machine c.slot_give_up.new.self (Slots (SlotGiveUp c.args.slot)) Done = c.slot_give_up.ensures.spent.there (sym c.has_slot.ensures ∙ c.if-not-has_slot.false) in
    (seated-quiet w.tasks w.outputs w.out w.out w.machine c.slot_give_up.new.self c.self.invariant.0 (Slots (SlotGiveUp c.args.slot)) Done noted refl refl refl, unslotted w.sent c.remove.new.self w.out w.machine c.slot_give_up.new.self c.self.invariant.1 c.args.slot r.items r.first r.next r.gone noted c.slot_give_up.ensures.gone)
