use Rattle.rt_super.proofs.Prelude.{◌≡◌, ◌<◌, ◌++◌, ◌∙◌, List, Bool, true, refl, subst, length, arith, with_items, with_items_is, length-map, subtree, stands_in, AreEnded, fresh_tasks, parents, placed, is_marked}
use Rattle.rt_super.proofs.Records.{record_end, record_end_past, known_within}
use Rattle.rt_super.proofs.Shapes.{count_states, sound_end, task_state, or_right, end_again, all_marked}
use Rattle.rt_super.proofs.tree.Tree.end.Goals as goal

pub invariant_of-self : goal.invariant_of-self
invariant_of-self c =
    let lengths : length c.end_subtree.new.ended ≡ length c.self.inside.ended.items = omega (arith, c.deref_mut.ensures.len) in
    let after : (with_items c.self.inside.ended c.end_subtree.new.ended).items ≡ c.end_subtree.new.ended = with_items_is c.self.inside.ended c.end_subtree.new.ended (omega (arith, c.deref_mut.ensures.len)) in
    let noted = subst (λ (marks : List Bool). c.end_subtree.new.flags.items ≡ c.self.inside.flags.items ++ fresh_tasks c.self.inside.nodes.items marks (subtree (placed 0 (parents c.self.inside.nodes.items)) c.args.node)) c.deref_mut.ensures.value (rw (c.deref.ensures.value) at c.end_subtree.ensures.flags) in
    record {
      sound = rw after (sound_end _ _ c.self.inside.ended.items _ c.args.node c.self.invariant.sound lengths (λ m. rw (c.deref.ensures.value, c.deref_mut.ensures.value) at (c.end_subtree.ensures.marks m)));
      right = rw (after, c.after-self-inside.ensures) (record_end _ _ _ _ _ c.self.invariant.right c.args.node _ _ _ (omega (arith, count_states c.self.inside.nodes.items)) (λ m. rw (c.deref.ensures.value, c.deref_mut.ensures.value) at (c.end_subtree.ensures.marks m)) (task_state c.self.inside.nodes.items) noted);
      flags = rw after c.end_subtree.ensures.few;
      pending = c.end_subtree.ensures.empty;
      visits = rw (c.end_subtree.ensures.visits) c.self.invariant.visits;
      room = rw (c.end_subtree.ensures.room) c.self.invariant.room;
    }

pub invariant_of-self-else-node-len : goal.invariant_of-self-else-node-len
invariant_of-self-else-node-len c = record {
  sound = c.self.invariant.sound;
  right = rw (c.after-self-inside.ensures) (record_end_past _ _ _ _ _ c.self.invariant.right c.args.node (omega (arith, count_states c.self.inside.nodes.items)));
  flags = c.self.invariant.flags;
  pending = c.self.invariant.pending;
  visits = c.self.invariant.visits;
  room = c.self.invariant.room;
}

pub returns-then-node-len-clause-again : goal.returns-then-node-len-clause-again
returns-then-node-len-clause-again c = λ on. rw (c.after-self-inside.ensures, ← c.self.view_is) (end_again _ _ _ _ _ _ c.self.invariant.sound c.self.invariant.right c.args.node (rw (← c.self.view_is) at on))

pub returns-then-node-len-clause-all : goal.returns-then-node-len-clause-all
unfolding AreEnded
returns-then-node-len-clause-all c = λ first m known.
    let whole = invariant_of-self c in
    let after : (with_items c.self.inside.ended c.end_subtree.new.ended).items ≡ c.end_subtree.new.ended = with_items_is c.self.inside.ended c.end_subtree.new.ended (omega (arith, c.deref_mut.ensures.len)) in
    let here : stands_in (subtree (placed 0 (parents c.deref.result.now)) c.args.node) 0 ≡ true = rw first refl in
    let root : is_marked (with_items c.self.inside.ended c.end_subtree.new.ended).items 0 ≡ true = rw after (c.end_subtree.ensures.marks 0 ∙ or_right _ _ here) in
    let within : m < length (parents c.self.inside.nodes.items) = omega (arith, known_within _ _ _ _ _ whole.right m known, count_states c.self.inside.nodes.items, length-map c.self.inside.nodes.items (λ x. x.parent)) in
    whole.right.ended m ∙ all_marked _ _ _ whole.sound root m within

pub returns-else-node-len-clause-all : goal.returns-else-node-len-clause-all
unfolding AreEnded
returns-else-node-len-clause-all c = λ first m known.
    let whole = invariant_of-self-else-node-len c in
    let within = known_within _ _ _ _ _ whole.right m known in
    absurd (omega (arith, within, first, c.if-node-len.false, c.len.ensures, count_states c.self.inside.nodes.items, length-map c.self.inside.nodes.items (λ x. x.parent)))
