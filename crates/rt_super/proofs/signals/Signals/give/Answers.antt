use Rattle.rt_super.proofs.Prelude.{arith, sym, ◌∙◌, state_of}
use Rattle.rt_super.proofs.Waits.{given_waits, met_waits}
use Rattle.rt_super.proofs.signals.Signals.give.Goals as goal

pub invariant_of-self : goal.invariant_of-self
invariant_of-self c =
    let i = c.self.invariant in
    record {
      signals = omega (arith, c.meet.ensures.next, c.set.ensures.next, i.signals);
      completions = omega (arith, c.meet-then-not-open.ensures.next, c.set.ensures.next, i.completions);
      room = omega (arith, c.meet-then-not-open.ensures.room, c.meet.ensures.room, c.set.ensures.next, i.room);
      pending = rw (c.set.ensures.items, c.set.ensures.next, c.meet.ensures.items, c.meet-then-not-open.ensures.items) (met_waits (state_of c.self.inside).told c.args.signaler _ i.pending);
    }

pub invariant_of-self-else-not-open : goal.invariant_of-self-else-not-open
invariant_of-self-else-not-open c =
    let i = c.self.invariant in
    record {
      signals = omega (arith, c.meet.ensures.next, c.set.ensures.next, i.signals);
      completions = omega (arith, c.set.ensures.next, i.completions);
      room = omega (arith, c.meet.ensures.room, c.set.ensures.next, i.room);
      pending = rw (c.set.ensures.items, c.set.ensures.next, c.meet.ensures.items) (given_waits (state_of c.self.inside).told c.args.signaler _ (sym c.is_open-open.ensures ∙ c.if-not-open.false) i.pending);
    }
