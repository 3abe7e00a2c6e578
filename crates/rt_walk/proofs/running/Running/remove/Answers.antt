use Rattle.rt_walk.proofs.Prelude.{◌≡◌, sym, remove, without_number}
use Rattle.rt_walk.proofs.Rising.{rising-without, remove-found, without-missed}
use Rattle.rt_walk.proofs.running.Running.remove.Goals as goal

pub invariant_of-self : goal.invariant_of-self
invariant_of-self c =
    let i = c.self.inside in
    let gone : remove i.numbers.items c.in-Ok.place ≡ without_number c.args.task i.numbers.items = remove-found c.args.task c.in-Ok.place i.numbers.items c.self.invariant (rw c.deref.ensures.value at c.in-Ok.ensures.position) in
    rw (c.remove.ensures.items, gone) (rising-without c.args.task i.numbers.items c.self.invariant)

pub returns-in-Ok : goal.returns-in-Ok
returns-in-Ok c =
    let i = c.self.inside in
    let gone : remove i.numbers.items c.in-Ok.place ≡ without_number c.args.task i.numbers.items = remove-found c.args.task c.in-Ok.place i.numbers.items c.self.invariant (rw c.deref.ensures.value at c.in-Ok.ensures.position) in
    rw (← c.self.view_is, c.remove.ensures.items) gone

pub returns-in-Err : goal.returns-in-Err
returns-in-Err c =
    let i = c.self.inside in
    rw (← c.self.view_is) (sym (without-missed c.args.task c.in-Err.field-0 i.numbers.items c.self.invariant (rw c.deref.ensures.value at c.in-Err.ensures.position)))
