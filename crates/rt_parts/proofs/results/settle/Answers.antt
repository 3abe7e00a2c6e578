use Rattle.std.proofs.Common.{◌≡◌, ◌∙◌, Some}
use Rattle.rt_model.specs.Lists.{find}
use Rattle.rt_parts.proofs.Changed.{outcome-some}
use Rattle.rt_parts.proofs.Totals.{settle-places}
use Rattle.rt_parts.proofs.results.settle.Goals as goal

pub returns-in-Some-clause-items : goal.returns-in-Some-clause-items
returns-in-Some-clause-items c =
    let there : find c.args.task c.args.results.now.items ≡ Some c.in-Some.found = cc in
    c.set.ensures.items ∙ outcome-some c.args.task c.args.results.now.items c.args.outcome c.in-Some.found there

pub returns-in-Some-clause-places : goal.returns-in-Some-clause-places
returns-in-Some-clause-places c closed =
    let there : find c.args.task c.args.results.now.items ≡ Some c.in-Some.found = cc in
    let items = c.set.ensures.items ∙ outcome-some c.args.task c.args.results.now.items c.args.outcome c.in-Some.found there in
    let places = settle-places c.args.task c.args.results.now.items c.args.outcome closed in
    rw items (rw there at places)
