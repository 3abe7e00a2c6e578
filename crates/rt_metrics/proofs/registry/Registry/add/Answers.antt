use Rattle.rt_metrics.proofs.Coherence.{keeps_registered}
use Rattle.rt_metrics.proofs.Prelude.{rules}
use Rattle.rt_metrics.proofs.registry.Registry.add.Goals as goal

pub invariant_of-self-2 : goal.invariant_of-self-2
invariant_of-self-2 c =
    let kept = keeps_registered c.self.inside.families.entries c.self.inside.metrics.entries c.self.inside.next c.args.name c.args.help.now c.args.kind c.args.attributes c.self.invariant (search rules) in
    search (rules, kept)
