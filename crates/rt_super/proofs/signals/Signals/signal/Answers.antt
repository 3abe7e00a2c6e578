use Rattle.rt_super.proofs.Prelude.{state_of}
use Rattle.rt_super.proofs.Shutdowns.{signal_keeps}
use Rattle.rt_super.proofs.signals.Signals.signal.Goals as goal

pub returns-clause-shutdowns : goal.returns-clause-shutdowns
returns-clause-shutdowns c = λ s other is.
    let was = rw (← c.self.view_is) at is in
    rw (c.give.ensures.given) (signal_keeps (state_of c.self.inside).told c.args.signaler _ s other was)
