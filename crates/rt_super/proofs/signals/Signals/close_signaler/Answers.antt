use Rattle.rt_super.proofs.Prelude.{◌∙◌, sym, arith, state_of}
use Rattle.rt_super.proofs.Waits.{over_waits}
use Rattle.rt_super.proofs.Shutdowns.{other_kept}
use Rattle.rt_super.proofs.signals.Signals.close_signaler.Goals as goal

pub returns-clause-shutdowns : goal.returns-clause-shutdowns
returns-clause-shutdowns c = λ s other is.
    let was = rw (← c.self.view_is) at is in
    rw (c.set.ensures.items) (other_kept (state_of c.self.inside).told c.args.signaler _ (sym c.is_alive.ensures ∙ c.if-not-is_alive.false) s other was ∙ was)

pub invariant_of-self-2 : goal.invariant_of-self-2
invariant_of-self-2 c =
    let i = c.self.invariant in
    record {
      signals = omega (arith, c.meet.ensures.next, c.set.ensures.next, i.signals);
      completions = omega (arith, c.remove.ensures.next, c.set.ensures.next, i.completions);
      room = omega (arith, c.meet.ensures.room, c.clear.ensures.capacity, c.set.ensures.next, i.room);
      pending = rw (c.set.ensures.items, c.set.ensures.next, c.meet.ensures.items, c.remove.ensures.items) (over_waits (state_of c.self.inside).told c.args.signaler i.pending);
    }
