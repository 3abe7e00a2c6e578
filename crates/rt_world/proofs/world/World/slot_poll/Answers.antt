use Rattle.rt_world.proofs.Prelude.{◌∙◌, refl, sym, Slots, SlotPoll, Pending, Ready, Noted}
use Rattle.rt_world.proofs.Calling.{seated-quiet, receive-pending, receive-refused, receive-shown, receive-value}
use Rattle.rt_world.proofs.Slotted.{held-none, held-there, polled-slotted, taken-slotted}
use Rattle.rt_world.proofs.world.World.slot_poll.Goals as goal

pub slot_poll-requires-clause-unsent : goal.slot_poll-requires-clause-unsent
slot_poll-requires-clause-unsent g c =
    let w = c.self.inside in
    held-none w.sent w.machine.told.state.stood.slots c.self.invariant.1 c.args.slot (sym c.get.ensures ∙ rw c.in-None.is refl)

pub returns-in-Err-clause-called : goal.returns-in-Err-clause-called
returns-in-Err-clause-called g c =
    let w = c.self.inside in
    rw (← c.self.view_is) (receive-refused w.machine c.slot_poll.new.self _ _ w.panic w.out w.rng c.args.slot c.in-Err.error refl (let none = sym c.get.ensures ∙ rw c.in-None.is refl in record { held = none; there = held-none w.sent w.machine.told.state.stood.slots c.self.invariant.1 c.args.slot none }) c.in-Err.ensures.err)

pub invariant_of-self-in-None : goal.invariant_of-self-in-None
invariant_of-self-in-None g c =
    let w = c.self.inside in
    let noted : Noted w.out w.machine c.slot_poll.new.self (Slots (SlotPoll c.args.slot)) Pending = c.in_default.ensures.ok in
    (seated-quiet w.tasks w.outputs w.out w.out w.machine c.slot_poll.new.self c.self.invariant.0 (Slots (SlotPoll c.args.slot)) Pending noted refl refl refl, polled-slotted w.sent w.sent w.out w.machine c.slot_poll.new.self c.self.invariant.1 c.args.slot noted (sym c.get.ensures ∙ rw c.in-None.is refl))

pub returns-in_default-clause-called : goal.returns-in_default-clause-called
returns-in_default-clause-called g c =
    let w = c.self.inside in
    rw (← c.self.view_is) (receive-pending w.machine c.slot_poll.new.self _ _ w.panic w.out w.rng c.args.slot refl (let none = sym c.get.ensures ∙ rw c.in-None.is refl in record { held = none; there = held-none w.sent w.machine.told.state.stood.slots c.self.invariant.1 c.args.slot none }) c.in_default.ensures.ok)

pub show_sent-requires-clause-sent : goal.show_sent-requires-clause-sent
show_sent-requires-clause-sent g c =
    let w = c.self.inside in
    held-there w.sent w.machine.told.state.stood.slots c.self.invariant.1 c.args.slot c.in-Some-Err.field-0.now (sym c.get.ensures ∙ rw c.in-Some-Err.is refl)

pub take_sent-requires-clause-sent : goal.take_sent-requires-clause-sent
take_sent-requires-clause-sent g c =
    let w = c.self.inside in
    held-there w.sent w.machine.told.state.stood.slots c.self.invariant.1 c.args.slot c.in-Some-Ok.field-0.now (sym c.get.ensures ∙ rw c.in-Some-Ok.is refl)

pub invariant_of-self-in-Some-Ok : goal.invariant_of-self-in-Some-Ok
invariant_of-self-in-Some-Ok g c =
    let w = c.self.inside in
    let noted : Noted w.out w.machine c.take_sent.new.self (Slots (SlotPoll c.args.slot)) Ready = c.in_ok-take_sent-in-Some-Ok.ensures.ok in
    let t = c.take.ensures in
    (seated-quiet w.tasks w.outputs w.out w.out w.machine c.take_sent.new.self c.self.invariant.0 (Slots (SlotPoll c.args.slot)) Ready noted refl refl refl, taken-slotted w.sent c.take.new.self w.out w.machine c.take_sent.new.self c.self.invariant.1 c.args.slot t.items t.first t.next t.gone noted)

pub returns-in-Some-Err-clause-called : goal.returns-in-Some-Err-clause-called
returns-in-Some-Err-clause-called g c =
    let w = c.self.inside in
    rw (← c.self.view_is) (receive-shown w.machine c.show_sent.new.self _ _ w.panic w.out w.rng c.args.slot c.in-Some-Err.error c.show_sent.result refl (sym c.get.ensures ∙ rw (c.in-Some-Err.is, c.in-Some-Err.field-0-is) refl) c.show_sent.ensures)

pub returns-in-Some-Ok-take-clause-called : goal.returns-in-Some-Ok-take-clause-called
returns-in-Some-Ok-take-clause-called g c =
    let w = c.self.inside in
    rw (← c.self.view_is) (receive-value w.machine c.take_sent.new.self _ _ w.panic w.out w.rng c.args.slot c.in-Some-Ok-take.value (rw c.take.ensures.items refl) (sym c.take.ensures.state ∙ rw (c.in-Some-Ok-take.is, c.in-Some-Ok-take.field-0-is) refl) c.in_ok-take_sent-in-Some-Ok.ensures.ok)
