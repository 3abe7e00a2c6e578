use Rattle.rt_super.proofs.Prelude.{arith, state_of}
use Rattle.rt_super.proofs.Waits.{gone_waits}
use Rattle.rt_super.proofs.signals.Signals.drop_completion.Goals as goal

pub invariant_of-self : goal.invariant_of-self
invariant_of-self c = record {
  signals = c.self.invariant.signals;
  completions = omega (arith, c.remove.ensures.next, c.self.invariant.completions);
  room = c.self.invariant.room;
  pending = rw (c.remove.ensures.items) (gone_waits (state_of c.self.inside).told c.args.completion c.self.invariant.pending);
}
