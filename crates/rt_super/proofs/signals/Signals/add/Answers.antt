use Rattle.rt_super.proofs.Prelude.{◌≡◌, arith, state_of}
use Rattle.rt_super.proofs.Waits.{added_waits}
use Rattle.rt_super.proofs.Shutdowns.{new_there, others_there}
use Rattle.rt_super.proofs.signals.Signals.add.Goals as goal

pub returns-clause-made : goal.returns-clause-made
returns-clause-made c =
    let number : c.self.inside.groups.next ≡ c.count-number.result = omega (arith, c.count-number.ensures, c.self.invariant.signals) in
    rw (c.push.ensures.items, c.reserve.ensures.items, c.reserve.ensures.next) (new_there c.self.inside.groups.next c.count-number.result _ _ number (c.facts.ensures.none c.self.inside.groups.next (omega arith)))

pub returns-clause-shutdowns : goal.returns-clause-shutdowns
returns-clause-shutdowns c = λ s is.
    let was = rw (← c.self.view_is) at is in
    rw (c.push.ensures.items, c.reserve.ensures.items) (others_there _ s.group _ _ _ was)

pub invariant_of-self-2 : goal.invariant_of-self-2
invariant_of-self-2 c =
    let i = c.self.invariant in
    record {
      signals = omega (arith, c.push-2.ensures.next, c.reserve-2.ensures.next, c.push.ensures.next, c.reserve.ensures.next, i.signals);
      completions = omega (arith, c.push-3.ensures.next, c.reserve-3.ensures.next, c.push.ensures.next, c.reserve.ensures.next, i.completions);
      room = omega (arith, c.clear.ensures.capacity, c.in_ok-reserve_woken.ensures.room, c.count-number.ensures, c.push.ensures.next, c.reserve.ensures.next, i.signals);
      pending = rw (c.push.ensures.items, c.push-2.ensures.items, c.push-3.ensures.items, c.push.ensures.next, c.reserve.ensures.items, c.reserve-2.ensures.items, c.reserve-3.ensures.items, c.reserve.ensures.next, c.reserve-2.ensures.next, c.reserve-3.ensures.next, i.signals, i.completions) (added_waits (state_of c.self.inside).told i.pending);
    }
