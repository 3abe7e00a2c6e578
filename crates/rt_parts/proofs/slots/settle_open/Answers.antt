use Rattle.std.proofs.Common.{◌≡◌, ◌∙◌, Some}
use Rattle.rt_model.specs.Lists.{find}
use Rattle.rt_parts.proofs.Changed.{settled-open}
use Rattle.rt_parts.proofs.Totals.{settled-places}
use Rattle.rt_parts.proofs.slots.settle_open.Goals as goal

pub returns-in-Open-clause-items : goal.returns-in-Open-clause-items
returns-in-Open-clause-items c =
    let there : find c.args.slot c.args.slots.now.items ≡ Some c.in-Some.found = cc in
    c.set.ensures.items ∙ settled-open c.args.slot c.args.slots.now.items c.args.outcome c.in-Some.found c.in-Open.waits there c.in-Open.is

pub returns-in-Open-clause-places : goal.returns-in-Open-clause-places
returns-in-Open-clause-places c =
    let there : find c.args.slot c.args.slots.now.items ≡ Some c.in-Some.found = cc in
    let items = c.set.ensures.items ∙ settled-open c.args.slot c.args.slots.now.items c.args.outcome c.in-Some.found c.in-Open.waits there c.in-Open.is in
    rw items (settled-places c.args.slot c.args.slots.now.items c.args.outcome c.in-Some.found c.in-Open.waits there c.in-Open.is c.requires)
