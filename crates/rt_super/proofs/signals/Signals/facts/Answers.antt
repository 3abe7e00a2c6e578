use Rattle.rt_super.proofs.Prelude.{state_of}
use Rattle.rt_super.proofs.Waits.{signal_pends, completion_pends}
use Rattle.rt_super.proofs.signals.Signals.facts.Goals as goal

pub returns-clause-signals : goal.returns-clause-signals
returns-clause-signals c = rw (← c.self.view_is) (λ n t there waits. signal_pends (state_of c.self.inside).told n t c.self.invariant.pending there waits)

pub returns-clause-completions : goal.returns-clause-completions
returns-clause-completions c = rw (← c.self.view_is) (λ n t there waits. completion_pends (state_of c.self.inside).told n t c.self.invariant.pending there waits)
