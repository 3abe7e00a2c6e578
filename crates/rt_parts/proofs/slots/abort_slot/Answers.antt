use Rattle.std.proofs.Common.{◌≡◌, ◌∙◌, arith, Some}
use Rattle.rt_model.specs.Lists.{find}
use Rattle.rt_parts.proofs.Changed.{wait-some}
use Rattle.rt_parts.proofs.Totals.{wait-places}
use Rattle.rt_parts.proofs.slots.abort_slot.Goals as goal

pub returns-in-Some-clause-places : goal.returns-in-Some-clause-places
returns-in-Some-clause-places c =
    let there : find c.args.slot c.args.slots.now.items ≡ Some c.in-Some.found = cc in
    let items = c.set.ensures.items ∙ wait-some c.args.slot c.args.slots.now.items c.in-Some.found there in
    let places = wait-places c.args.slot c.args.slots.now.items c.in-Some.found there c.requires in
    rw items (omega (arith, places, c.waiter_of.ensures.places))
