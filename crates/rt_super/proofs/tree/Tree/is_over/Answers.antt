use Rattle.rt_super.proofs.Prelude.{◌≡◌, ◌<◌, ◌∙◌, sym, true, length, arith, length-map, AreEnded, parents, is_marked}
use Rattle.rt_super.proofs.Records.{known_within}
use Rattle.rt_super.proofs.Shapes.{count_states, all_marked}
use Rattle.rt_super.proofs.tree.Tree.is_over.Goals as goal

pub returns-clause-all : goal.returns-clause-all
unfolding AreEnded
returns-clause-all c = λ over m known.
    let whole = c.self.invariant in
    let ended = c.self.inside.ended.items in
    let there = rw (← c.self.view_is) at known in
    let root : is_marked ended 0 ≡ true = sym (whole.right.ended 0) ∙ sym (rw (← c.self.view_is) at c.has_ended-over.ensures) ∙ over in
    let within : m < length (parents c.self.inside.nodes.items) = omega (arith, known_within _ _ _ _ _ whole.right m there, count_states c.self.inside.nodes.items, length-map c.self.inside.nodes.items (λ x. x.parent)) in
    rw (← c.self.view_is) (whole.right.ended m ∙ all_marked _ _ _ whole.sound root m within)
