use Rattle.rt_world.proofs.Prelude.{◌∙◌, refl, sym, is_some, Slots, SlotSend, Done, find, is_open, Noted}
use Rattle.rt_world.proofs.Calling.{seated-quiet, spent-seated}
use Rattle.rt_world.proofs.Slotted.{sent-slotted, slot-dropped, both-of, open-unsent}
use Rattle.rt_world.proofs.world.World.slot_send.Goals as goal

pub put-requires-clause-out : goal.put-requires-clause-out
put-requires-clause-out g c =
    let w = c.self.inside in
    let takes = sym c.takes-takes.ensures ∙ c.if-takes.true in
    open-unsent w.sent w.machine.told.state.stood.slots c.self.invariant.1 c.args.slot (both-of (is_some (find c.args.slot w.machine.told.state.stood.slots.senders)) (is_open (find c.args.slot w.machine.told.state.stood.slots.results)) takes).1

pub invariant_of-self : goal.invariant_of-self
invariant_of-self g c =
    let w = c.self.inside in
    let slots = w.machine.told.state.stood.slots in
    let both = both-of (is_some (find c.args.slot slots.senders)) (is_open (find c.args.slot slots.results)) (sym c.takes-takes.ensures ∙ c.if-takes.true) in
    let noted : Noted w.out w.machine c.slot_send.new.self (Slots (SlotSend c.args.slot)) Done = c.slot_send.ensures.there both.0 in
    (seated-quiet w.tasks w.outputs w.out w.out w.machine c.slot_send.new.self c.self.invariant.0 (Slots (SlotSend c.args.slot)) Done noted refl refl refl, sent-slotted w.sent c.put.new.self w.out w.machine c.slot_send.new.self c.self.invariant.1 c.args.slot noted c.args.sent c.put.ensures.items c.put.ensures.first c.put.ensures.next both.1)

pub invariant_of-self-else-takes : goal.invariant_of-self-else-takes
invariant_of-self-else-takes g c =
    let w = c.self.inside in
    (spent-seated w.tasks w.outputs w.out w.out w.machine c.slot_send.new.self c.self.invariant.0 (Slots (SlotSend c.args.slot)) refl refl refl c.slot_send.ensures, slot-dropped w.sent w.out w.machine c.slot_send.new.self c.self.invariant.1 c.args.slot c.slot_send.ensures (sym c.takes-takes.ensures ∙ c.if-takes.false))
