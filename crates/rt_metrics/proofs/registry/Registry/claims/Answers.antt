use Rattle.rt_metrics.proofs.Coherence.{registered_claims}
use Rattle.rt_metrics.proofs.Prelude.{rules}
use Rattle.rt_metrics.proofs.registry.Registry.claims.Goals as goal

pub returns-in-Some-clause-registered : goal.returns-in-Some-clause-registered
returns-in-Some-clause-registered c = search (rules, registered_claims _ _ _ c.args.id c.self.invariant)

pub returns-in-None-clause-registered : goal.returns-in-None-clause-registered
returns-in-None-clause-registered c = search (rules, registered_claims _ _ _ c.args.id c.self.invariant)
