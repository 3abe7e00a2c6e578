use Rattle.rt_machine.proofs.Prelude.{rules}
use Rattle.rt_machine.proofs.Numbered.{short-there, label-past}
use Rattle.rt_machine.proofs.labels.Labels.visit_fields.Goals as goal

pub returns-in-Some-Short-clause-fields : goal.returns-in-Some-Short-clause-fields
returns-in-Some-Short-clause-fields c =
    let there = short-there c.self.inside.labels.items c.self.inside.longs.items c.args.node c.in-Some-Short.field-0.now c.in-Some-Short.label (search rules) (search rules) c.in-Some-Short.field-0-is in
    rw (← c.self.view_is, there, ← c.copy.ensures) c.of_short_task.ensures

pub returns-in-None-clause-fields : goal.returns-in-None-clause-fields
returns-in-None-clause-fields c =
    let past = label-past c.self.inside.labels.items c.self.inside.longs.items c.args.node (search rules) in
    rw (← c.self.view_is, past) (search rules)
