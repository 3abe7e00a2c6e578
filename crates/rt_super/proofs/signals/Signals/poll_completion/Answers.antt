use Rattle.rt_super.proofs.Prelude.{arith, sym, ◌∙◌, state_of}
use Rattle.rt_super.proofs.Waits.{asked_waits}
use Rattle.rt_super.proofs.signals.Signals.poll_completion.Goals as goal

pub invariant_of-self-2 : goal.invariant_of-self-2
invariant_of-self-2 c =
    let i = c.self.invariant in
    record {
      signals = i.signals;
      completions = omega (arith, c.wait.ensures.next, i.completions);
      room = omega (arith, c.clear.ensures.capacity, i.room);
      pending = rw (c.wait.ensures.items) (asked_waits (state_of c.self.inside).told c.args.completion _ c.in-Some.token (sym c.in-Some.ensures) (sym c.completes.ensures ∙ c.if-completes.false) i.pending);
    }
