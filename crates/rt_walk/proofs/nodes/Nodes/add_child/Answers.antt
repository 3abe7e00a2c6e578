use Rattle.rt_walk.proofs.Prelude.{rules, ◌≡◌, ◌∙◌, sym, refl, true, false, ◌++◌, ◌∷◌, [], Some, None, append-nil, is_child, is_ended, new_node, has_number, children_in, told_by}
use Rattle.rt_walk.proofs.Families.{family-more, elders-right}
use Rattle.rt_walk.proofs.Rows.{unknown, born-right, child-right, placed-right, distinct-right}
use Rattle.rt_walk.proofs.nodes.Nodes.add_child.Goals as goal

pub invariant_of-self-then-is_ended : goal.invariant_of-self-then-is_ended
invariant_of-self-then-is_ended c =
    let i = c.self.inside in
    let xs = i.rows.items in
    let fresh : has_number c.args.number i.places.numbers ≡ false = search rules in
    let childless : children_in i.family c.args.number ≡ [] = search rules in
    let rows : c.push_row.new.rows.items ≡ xs ++ new_node c.args.number None true ∷ [] = search rules in
    let places : c.push_row.new.places.numbers ≡ i.places.numbers ++ c.args.number ∷ [] = search rules in
    let ended : c.push.new.self.numbers ≡ i.ended.numbers ++ c.args.number ∷ [] = search rules in
    let unseen = unknown c.args.number xs i.ends.items (rw c.self.invariant.placed at fresh) in
    record {
      ended = born-right i.ended.numbers c.push.new.self.numbers xs c.push_row.new.rows.items i.ends.items c.args.number rows ended unseen c.self.invariant.ended;
      placed = placed-right c.args.number i.places.numbers c.push_row.new.places.numbers xs c.push_row.new.rows.items (new_node c.args.number None true) c.self.invariant.placed refl rows places;
      distinct = distinct-right c.args.number i.places.numbers c.push_row.new.places.numbers places fresh c.self.invariant.distinct;
      children = family-more (children_in i.family) (children_in i.family) xs c.push_row.new.rows.items (new_node c.args.number None true) rows (λ node. sym (append-nil (children_in i.family node))) c.self.invariant.children;
      elders = elders-right xs c.push_row.new.rows.items (new_node c.args.number None true) rows (sym (c.self.invariant.children c.args.number) ∙ childless) refl c.self.invariant.elders;
    }

pub invariant_of-self-3 : goal.invariant_of-self-3
invariant_of-self-3 c =
    let i = c.self.inside in
    let xs = i.rows.items in
    let fresh : has_number c.args.number i.places.numbers ≡ false = search rules in
    let childless : children_in i.family c.args.number ≡ [] = search rules in
    let rows : c.push_row-2.new.rows.items ≡ xs ++ new_node c.args.number (Some c.args.parent) false ∷ [] = search rules in
    let places : c.push_row-2.new.places.numbers ≡ i.places.numbers ++ c.args.number ∷ [] = search rules in
    let apart : is_child c.args.number (Some c.args.parent) ≡ false = search rules in
    let off : is_ended (told_by c.reserve.new.self.items i.ends.items) c.args.parent ≡ false = search rules in
    record {
      ended = child-right i.ended.numbers c.reserve-3.new.self.numbers xs c.push_row-2.new.rows.items i.ends.items c.args.number c.args.parent rows c.reserve-3.ensures.numbers (rw c.reserve.ensures.items at off) c.self.invariant.ended;
      placed = placed-right c.args.number i.places.numbers c.push_row-2.new.places.numbers xs c.push_row-2.new.rows.items (new_node c.args.number (Some c.args.parent) false) c.self.invariant.placed refl rows places;
      distinct = distinct-right c.args.number i.places.numbers c.push_row-2.new.places.numbers places fresh c.self.invariant.distinct;
      children = family-more (children_in i.family) (children_in c.add.new.self) xs c.push_row-2.new.rows.items (new_node c.args.number (Some c.args.parent) false) rows c.in_ok-add.ensures.added c.self.invariant.children;
      elders = elders-right xs c.push_row-2.new.rows.items (new_node c.args.number (Some c.args.parent) false) rows (sym (c.self.invariant.children c.args.number) ∙ childless) apart c.self.invariant.elders;
    }
