use Rattle.rt_machine.proofs.Prelude.{rules, ◌≡◌, ◌∙◌, [], get_or, sym, label_at, Long}
use Rattle.rt_machine.proofs.Numbered.{labels-push, short-there, long-there, label-past}
use Rattle.rt_machine.proofs.labels.Labels.repeat.Goals as goal

pub returns-in-Some-Short-clause-items : goal.returns-in-Some-Short-clause-items
returns-in-Some-Short-clause-items c =
    let there = short-there c.self.inside.labels.items c.self.inside.longs.items c.args.node c.in-Some-Short.field-0.now c.in-Some-Short.label (search rules) (search rules) c.in-Some-Short.field-0-is in
    let at : label_at c.args.self.now.items c.args.node ≡ c.copy-label.result = rw (← c.self.view_is) (there ∙ sym c.copy-label.ensures) in
    rw at c.push_short.ensures.items

pub returns-in-Some-Long-clause-items : goal.returns-in-Some-Long-clause-items
returns-in-Some-Long-clause-items c =
    let labels = c.self.inside.labels.items in
    let longs = c.self.inside.longs.items in
    let pushed = labels-push labels longs (Long c.in-Some-Long.place) in
    let there = long-there labels longs c.args.node c.in-Some-Long.field-0.now c.in-Some-Long.place (get_or longs c.in-Some-Long.place []) c.self.invariant.0 (search rules) (search rules) c.in-Some-Long.field-0-is (search rules) in
    rw (← c.self.view_is, there) (search (rules, pushed))

pub returns-in-None-clause-items : goal.returns-in-None-clause-items
returns-in-None-clause-items c =
    let past = label-past c.self.inside.labels.items c.self.inside.longs.items c.args.node (search rules) in
    let at : label_at c.args.self.now.items c.args.node ≡ [] = rw (← c.self.view_is) past in
    rw at (search rules)
