use Rattle.rt_machine.proofs.Prelude.{◌≡◌, ◌∙◌, Some, find}
use Rattle.rt_machine.proofs.Changed.{leave-some}
use Rattle.rt_machine.proofs.marks.leave.Goals as goal
use Rattle.rt_machine.proofs.Totals.{leave-places}

pub returns-in-Some-clause-items : goal.returns-in-Some-clause-items
returns-in-Some-clause-items c =
    let there : find c.args.task c.args.marks.now.items ≡ Some c.in-Some.mark = cc in
    c.set.ensures.items ∙ leave-some c.args.task c.args.marks.now.items c.in-Some.mark there

pub returns-in-Some-clause-places : goal.returns-in-Some-clause-places
returns-in-Some-clause-places c =
    let there : find c.args.task c.args.marks.now.items ≡ Some c.in-Some.mark = cc in
    let items = c.set.ensures.items ∙ leave-some c.args.task c.args.marks.now.items c.in-Some.mark there in
    let places = leave-places c.args.task c.args.marks.now.items in
    rw items (rw there at places)
