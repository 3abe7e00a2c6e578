use Rattle.rt_world.proofs.Prelude.{◌∙◌, refl, arith, Slots, Slot, SlotAt, Plainly}
use Rattle.rt_world.proofs.Calling.{seated-quiet, lacking-calls, slot-calls}
use Rattle.rt_world.proofs.Slotted.{made-slotted}
use Rattle.rt_world.proofs.world.World.slot.Goals as goal

pub returns-then-is_err-clause-called : goal.returns-then-is_err-clause-called
returns-then-is_err-clause-called g c =
    let w = c.self.inside in
    rw (← c.self.view_is) (lacking-calls w.machine c.lack.new.self _ _ w.panic w.out w.rng (Plainly (Slots Slot)) _ (rw c.reserve.ensures.items refl) c.lack.ensures)

pub invariant_of-self-2 : goal.invariant_of-self-2
invariant_of-self-2 g c =
    let w = c.self.inside in
    let r = c.reserve.ensures in
    let k = c.in_ok-slot.slot in
    let noted = c.in_ok-slot.ensures.ok in
    (seated-quiet w.tasks w.outputs w.out w.out w.machine c.slot.new.self c.self.invariant.0 (Slots Slot) (SlotAt k) noted refl refl refl, made-slotted w.sent c.skip.new.self w.out w.machine c.slot.new.self c.self.invariant.1 k noted (c.skip.ensures.items ∙ r.items) (c.skip.ensures.first ∙ r.first) (c.skip.ensures.next ∙ rw r.next refl) (c.facts.ensures.unslotted w.machine.told.state.stood.slots.count (omega arith)))

pub returns-clause-called : goal.returns-clause-called
returns-clause-called g c =
    let w = c.self.inside in
    rw (← c.self.view_is) (slot-calls w.machine c.slot.new.self _ _ w.panic w.out w.rng c.in_ok-slot.slot (rw (c.skip.ensures.items, c.reserve.ensures.items) refl) c.in_ok-slot.ensures.ok)
