use Rattle.rt_scenario.proofs.Prelude.{ap, length, arith, nat_tests}
use Rattle.rt_scenario.proofs.Scripts.{runnable_of}
use Rattle.rt_scenario.proofs.draft.Draft.finish.Goals as goal

pub returns-clause-runs : goal.returns-clause-runs
returns-clause-runs c = rw c.of.ensures c.self.invariant.2

pub returns-clause-settings : goal.returns-clause-settings
returns-clause-settings c = runnable_of c.self.inside.closed c.self.inside.settings c.self.inside.runs.items (λ e. let h = c.if-is_empty.false in let k = c.is_empty.ensures in let n = ap length e in grind (arith, nat_tests)) c.self.invariant.2
