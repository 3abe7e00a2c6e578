use Rattle.rt_machine.proofs.Prelude.{◌≡◌, ◌∙◌, ap, length, arith}
use Rattle.rt_machine.proofs.Shuffled.{length-shuffled, shuffled-may, shuffled-drains, stands-drained}
use Rattle.rt_machine.proofs.machine.Machine.shuffled_round.Goals as goal

pub copy_from_slice-requires : goal.copy_from_slice-requires
copy_from_slice-requires g c =
    let orders = c.shuffle.ensures.shuffles.orders in
    let same : length c.shuffle.new.numbers.items ≡ length c.args.order.now.items = ap length orders.is ∙ length-shuffled c.args.order.now.items orders.draws in
    let long = c.in_ok-kept.ensures.len in
    omega (arith, same, long, c.as_slice.ensures.len, c.as_slice-2.ensures.len, ap length c.as_slice.ensures.value, ap length c.as_slice-2.ensures.value)

pub push-requires-clause-may : goal.push-requires-clause-may
push-requires-clause-may g c =
    let j = c.self.inside.journal in
    let ready : c.args.order.now.items ≡ j.told.state.ready = rw (← c.self.view_is) at c.requires.order in
    let kept = c.from_vec.ensures ∙ c.copy_from_slice.ensures.items ∙ c.as_slice-2.ensures.value in
    shuffled-may _ _ j c.take_entries.new.journal c.shuffle.new.journal c.shuffle.new.numbers.items c.take_entries.ensures.told (rw ready at c.shuffle.ensures.shuffles) c.from_vec.result kept c.self.invariant.none_owed (rw (← c.self.view_is) at c.requires.may)

pub returns-clause-ok : goal.returns-clause-ok
returns-clause-ok g c =
    let j = c.self.inside.journal in
    let ready : c.args.order.now.items ≡ j.told.state.ready = rw (← c.self.view_is) at c.requires.order in
    let kept = c.from_vec.ensures ∙ c.copy_from_slice.ensures.items ∙ c.as_slice-2.ensures.value in
    rw (← c.self.view_is)
    (shuffled-drains _ _ j c.take_entries.new.journal c.shuffle.new.journal c.shuffle.new.numbers.items c.take_entries.ensures.told (rw ready at c.shuffle.ensures.shuffles) c.push.new.self c.from_vec.result kept c.push.ensures.told)

pub invariant_of-self-2 : goal.invariant_of-self-2
invariant_of-self-2 g c =
    let j = c.self.inside.journal in
    let ready : c.args.order.now.items ≡ j.told.state.ready = rw (← c.self.view_is) at c.requires.order in
    let kept = c.from_vec.ensures ∙ c.copy_from_slice.ensures.items ∙ c.as_slice-2.ensures.value in
    let sh = rw ready at c.shuffle.ensures.shuffles in
    let d = shuffled-drains _ _ j c.take_entries.new.journal c.shuffle.new.journal c.shuffle.new.numbers.items c.take_entries.ensures.told sh c.push.new.self c.from_vec.result kept c.push.ensures.told in
    let i = c.self.invariant in
    rw c.clear.ensures.items
    (stands-drained _ _ j c.push.new.self c.shuffle.new.numbers.items d (rw (← c.self.view_is) at c.requires.may) _ _ _ _ _ _ _ _ _ _ _ _ _ _ _ _ _ _ i (omega (arith, c.in_ok-take_entries.ensures.room, c.len.ensures, ap length ready, sh.orders.count, sh.spare, c.push.ensures.spare)) (omega (arith, i.ready_room, c.clear.ensures.capacity, c.clear.ensures.len)))
