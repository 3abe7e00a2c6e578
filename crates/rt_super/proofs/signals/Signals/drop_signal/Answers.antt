use Rattle.rt_super.proofs.Prelude.{◌≡◌, false, arith, sym, completes, without_signal, state_of}
use Rattle.rt_super.proofs.Waits.{last_waits, closed_waits}
use Rattle.rt_super.proofs.signals.Signals.drop_signal.Goals as goal

pub invariant_of-self : goal.invariant_of-self
invariant_of-self c =
    let i = c.self.invariant in
    record {
      signals = omega (arith, c.remove.ensures.next, i.signals);
      completions = omega (arith, c.meet.ensures.next, i.completions);
      room = omega (arith, c.meet.ensures.room, i.room);
      pending = rw (c.remove.ensures.items, c.meet.ensures.items) (last_waits (state_of c.self.inside).told c.args.signal c.in-Some.token (sym c.in-Some.ensures) i.pending);
    }

pub invariant_of-self-else-not-is_open : goal.invariant_of-self-else-not-is_open
invariant_of-self-else-not-is_open c =
    let i = c.self.invariant in
    let told = (state_of c.self.inside).told in
    let unmet : completes (without_signal told c.args.signal) c.in-Some.token.group ≡ false = grind (arith, c.is_open.ensures, c.if-not-is_open.false, c.remove.ensures.items) in
    record {
      signals = omega (arith, c.remove.ensures.next, i.signals);
      completions = i.completions;
      room = i.room;
      pending = rw (c.remove.ensures.items) (closed_waits told c.args.signal c.in-Some.token (sym c.in-Some.ensures) unmet i.pending);
    }

pub invariant_of-self-else-has_value : goal.invariant_of-self-else-has_value
invariant_of-self-else-has_value c =
    let i = c.self.invariant in
    let told = (state_of c.self.inside).told in
    let unmet : completes (without_signal told c.args.signal) c.in-Some.token.group ≡ false = grind (arith, c.has_value-has_value.ensures, c.if-has_value.false) in
    record {
      signals = omega (arith, c.remove.ensures.next, i.signals);
      completions = i.completions;
      room = i.room;
      pending = rw (c.remove.ensures.items) (closed_waits told c.args.signal c.in-Some.token (sym c.in-Some.ensures) unmet i.pending);
    }
