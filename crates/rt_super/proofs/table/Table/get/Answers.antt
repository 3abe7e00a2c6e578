use Rattle.rt_super.proofs.Prelude.{◌≤◌, ◌<◌, ◌-◌, sym, refl, arith, length, slice_get_read}
use Rattle.rt_super.proofs.Rows.{get-some}
use Rattle.rt_super.proofs.table.Table.get.Goals as goal

pub returns-in-Some : goal.returns-in-Some
returns-in-Some g c =
    let i = c.self.inside in
    let low : i.first ≤ c.args.task = grind (arith, c.if-task-self.false) in
    let look = c.in-Some.ensures.lookup in
    let within : c.args.task - i.first < length c.deref.result.now = grind (arith, look.0) in
    let read = slice_get_read c.deref.result.now (length c.deref.result.now) (c.args.task - i.first) c.in-Some.place.now refl within look.1 in
    rw (← c.self.view_is) (sym (get-some i.first c.args.task i.places.items c.in-Some.place.now low (rw c.deref.ensures.value at read)))
