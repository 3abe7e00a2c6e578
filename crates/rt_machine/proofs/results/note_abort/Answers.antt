use Rattle.rt_machine.proofs.Prelude.{◌≡◌, ◌∙◌, Some, find}
use Rattle.rt_machine.proofs.Changed.{abort-some}
use Rattle.rt_machine.proofs.results.note_abort.Goals as goal
use Rattle.rt_machine.proofs.Totals.{abort-places}

pub returns-in-Some-clause-items : goal.returns-in-Some-clause-items
returns-in-Some-clause-items c =
    let there : find c.args.task c.args.results.now.items ≡ Some c.in-Some.found = cc in
    c.set.ensures.items ∙ abort-some c.args.task c.args.results.now.items c.in-Some.found there

pub returns-in-Some-clause-places : goal.returns-in-Some-clause-places
returns-in-Some-clause-places c =
    let there : find c.args.task c.args.results.now.items ≡ Some c.in-Some.found = cc in
    let items = c.set.ensures.items ∙ abort-some c.args.task c.args.results.now.items c.in-Some.found there in
    rw items (abort-places c.args.task c.args.results.now.items c.requires)
