use Rattle.rt_super.proofs.Prelude.{◌≡◌, Ok, arith, sym, state_of, rules, Pending, group_of, shown}
use Rattle.rt_super.proofs.Waits.{polled_waits}
use Rattle.rt_super.proofs.signals.Signals.poll_signal.Goals as goal

pub invariant_of-self-2 : goal.invariant_of-self-2
invariant_of-self-2 c =
    let i = c.self.invariant in
    let told = (state_of c.self.inside).told in
    let pends : shown (group_of told c.in-Some.token.group) ≡ Ok Pending = search rules in
    record {
      signals = omega (arith, c.wait.ensures.next, i.signals);
      completions = i.completions;
      room = omega (arith, c.clear-2.ensures.capacity, i.room);
      pending = rw (c.wait.ensures.items) (polled_waits told c.args.signal _ c.in-Some.token (sym c.in-Some.ensures) pends i.pending);
    }
