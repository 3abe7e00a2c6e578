use Rattle.rt_super.proofs.Prelude.{arith, state_of}
use Rattle.rt_super.proofs.Waits.{completion_waits}
use Rattle.rt_super.proofs.signals.Signals.add_completion.Goals as goal

pub invariant_of-self-2 : goal.invariant_of-self-2
invariant_of-self-2 c =
    let i = c.self.invariant in
    record {
      signals = omega (arith, c.skip-2.ensures.next, c.reserve-2.ensures.next, c.skip.ensures.next, c.reserve.ensures.next, i.signals);
      completions = omega (arith, c.in_ok-push_to.ensures.next, c.skip.ensures.next, c.reserve.ensures.next, i.completions);
      room = omega (arith, c.clear.ensures.capacity, c.in_ok-reserve_woken.ensures.room, c.count-number.ensures, c.skip.ensures.next, c.reserve.ensures.next, i.signals);
      pending = rw (c.skip.ensures.items, c.skip-2.ensures.items, c.in_ok-push_to.ensures.items, c.reserve.ensures.items, c.reserve-2.ensures.items, i.completions) (completion_waits (state_of c.self.inside).told _ _ i.pending);
    }
