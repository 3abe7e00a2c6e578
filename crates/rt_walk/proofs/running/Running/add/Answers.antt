use Rattle.rt_walk.proofs.Prelude.{◌≡◌, ◌∙◌, ap, insert, with_number}
use Rattle.rt_walk.proofs.Rising.{with-at, rising-with}
use Rattle.rt_walk.proofs.running.Running.add.Goals as goal

pub invariant_of-self-3 : goal.invariant_of-self-3
invariant_of-self-3 c =
    let place = c.place_of-place.result in
    let items = c.reserve.new.self.items in
    let comes : insert items place c.args.task ≡ with_number c.args.task items = with-at c.args.task place items c.place_of-place.ensures.within c.place_of-place.ensures.low c.place_of-place.ensures.high in
    rw (c.in-Ok.ensures.items, comes, c.reserve.ensures.items) (rising-with c.args.task c.self.inside.numbers.items c.self.invariant)

pub returns : goal.returns
returns c =
    let place = c.place_of-place.result in
    let items = c.reserve.new.self.items in
    let comes : insert items place c.args.task ≡ with_number c.args.task items = with-at c.args.task place items c.place_of-place.ensures.within c.place_of-place.ensures.low c.place_of-place.ensures.high in
    c.in-Ok.ensures.items ∙ comes ∙ ap (with_number c.args.task) (c.reserve.ensures.items ∙ c.self.view_is)
