use Rattle.rt_machine.proofs.Prelude.{rules, refl}
use Rattle.rt_machine.proofs.Numbered.{short-there, label-past}
use Rattle.rt_machine.proofs.labels.Labels.get.Goals as goal

pub returns-in-Some-Short : goal.returns-in-Some-Short
returns-in-Some-Short c =
    let there = short-there c.self.inside.labels.items c.self.inside.longs.items c.args.node c.in-Some-Short.field-0.now c.in-Some-Short.label (search rules) (search rules) c.in-Some-Short.field-0-is in
    rw (← c.self.view_is, there) c.as_str.ensures

pub returns-in-None : goal.returns-in-None
returns-in-None c =
    let past = label-past c.self.inside.labels.items c.self.inside.longs.items c.args.node (search rules) in
    rw (← c.self.view_is, past) refl
