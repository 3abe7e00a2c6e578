use Rattle.rt_machine.proofs.Prelude.{◌≡◌, ◌∙◌, Some, find}
use Rattle.rt_machine.proofs.Changed.{flag-some}
use Rattle.rt_machine.proofs.marks.flag.Goals as goal
use Rattle.rt_machine.proofs.Totals.{flag-places}

pub returns-clause-items : goal.returns-clause-items
returns-clause-items c =
    let there : find c.args.task c.args.marks.now.items ≡ Some c.in-Some.mark = cc in
    c.set.ensures.items ∙ flag-some c.args.task c.args.marks.now.items c.in-Some.mark there

pub returns-clause-places : goal.returns-clause-places
returns-clause-places c =
    let there : find c.args.task c.args.marks.now.items ≡ Some c.in-Some.mark = cc in
    let items = c.set.ensures.items ∙ flag-some c.args.task c.args.marks.now.items c.in-Some.mark there in
    let places = flag-places c.args.task c.args.marks.now.items in
    rw items (rw there at places)
