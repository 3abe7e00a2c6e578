use Rattle.rt_walk.proofs.Prelude.{◌≡◌, ◌∷◌, ◌++◌, [], sym, rules, Some, slice_get}
use Rattle.rt_walk.proofs.Fields.{take-further}
use Rattle.rt_walk.proofs.announced.copied.Goals as goal

pub loop-place-preserved : goal.loop-place-preserved
loop-place-preserved c =
    let there : slice_get c.args.fields.now c.loop-place.place ≡ Some c.in-Some.field.now = search rules in
    let copy : c.in_ok-to_vec-in-Some.field-0.items ≡ c.in-Some.field.now = c.in_ok-to_vec-in-Some.ensures.items_if_clones_equal (λ x y e. e) in
    let pushed : c.push.new.self.items ≡ c.loop-place.copies.items ++ c.in_ok-to_vec-in-Some.field-0.items ∷ [] = search rules in
    rw (pushed, copy, c.loop-place.invariant) (sym (take-further c.args.fields.now c.loop-place.place c.in-Some.field.now there))
