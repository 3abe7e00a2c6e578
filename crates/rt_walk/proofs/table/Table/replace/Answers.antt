use Rattle.rt_walk.proofs.Prelude.{rules, ◌≡◌, ◌∙◌, ap, true, get_or, is_some, sym}
use Rattle.rt_walk.proofs.Placed.{set-here}
use Rattle.rt_walk.proofs.table.Table.replace.Goals as goal

pub returns-then-is_some : goal.returns-then-is_some
returns-then-is_some g c =
    let i = c.self.inside in
    let read : is_some c.index.result.now ≡ true = search rules in
    let there : is_some (get_or i.values.items c.in-Some.place c.index.result.now) ≡ true = ap is_some (sym c.index.ensures) ∙ read in
    rw (← c.self.view_is) (set-here c.args.number c.in-Some.place i.places.numbers i.values.items c.index.result.now c.self.invariant.0 c.self.invariant.1 (sym c.in-Some.ensures) c.args.value there)
