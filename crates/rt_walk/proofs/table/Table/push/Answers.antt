use Rattle.rt_walk.proofs.Prelude.{rules, ◌≡◌, ◌∙◌, ap, false, ◌++◌, ◌∷◌, [], Some, has_number}
use Rattle.rt_walk.proofs.Placed.{distinct-more, same-more}
use Rattle.rt_walk.proofs.table.Table.push.Goals as goal

pub invariant_of-self-2 : goal.invariant_of-self-2
invariant_of-self-2 g c =
    let i = c.self.inside in
    let fresh : has_number c.args.number i.places.numbers ≡ false = search rules in
    let numbers : c.push.new.self.numbers ≡ i.places.numbers ++ c.args.number ∷ [] = c.push.ensures.numbers ∙ ap (λ ns. ns ++ c.args.number ∷ []) c.reserve.ensures.numbers in
    let values : c.push_reserved.new.self.items ≡ i.values.items ++ Some c.args.value ∷ [] = c.push_reserved.ensures.items ∙ ap (λ vs. vs ++ Some c.args.value ∷ []) c.reserve-2.ensures.items in
    (rw numbers (distinct-more c.args.number i.places.numbers fresh c.self.invariant.0), rw (numbers, values) (same-more i.places.numbers i.values.items c.args.number (Some c.args.value) c.self.invariant.1))
