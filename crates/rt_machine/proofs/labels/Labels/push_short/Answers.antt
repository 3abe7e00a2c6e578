use Rattle.rt_machine.proofs.Prelude.{rules, Short}
use Rattle.rt_machine.proofs.Numbered.{labels-push}
use Rattle.rt_machine.proofs.labels.Labels.push_short.Goals as goal

pub returns-clause-items : goal.returns-clause-items
returns-clause-items c =
    let pushed = labels-push c.self.inside.labels.items c.self.inside.longs.items (Short c.args.label) in
    rw (c.push_reserved.ensures.items, ← c.self.view_is) (search (rules, pushed))
