use Rattle.rt_machine.proofs.Prelude.{rules}
use Rattle.rt_machine.proofs.Numbered.{labels-long}
use Rattle.rt_machine.proofs.labels.Labels.push_long.Goals as goal

pub returns-clause-items : goal.returns-clause-items
returns-clause-items c =
    let pushed = labels-long c.self.inside.labels.items c.self.inside.longs.items c.args.label c.self.invariant.0 in
    rw (← c.self.view_is) (search (rules, pushed))
