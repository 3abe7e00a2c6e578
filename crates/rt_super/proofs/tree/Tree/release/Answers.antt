use Rattle.rt_super.proofs.Prelude.{refl, false, arith, length-set, Node}
use Rattle.rt_super.proofs.Shapes.{set_keeps, right_changed, right_unchanged}
use Rattle.rt_super.proofs.tree.Tree.release.Goals as goal

pub invariant_of-self : goal.invariant_of-self
invariant_of-self c =
    let x = c.index_mut.result.now in
    let y : Node = record { parent = x.parent; live = false; task = x.task; children = x.children } in
    let parents_same = set_keeps (λ z. z.parent) c.self.inside.nodes.items c.args.node x y c.index_mut.ensures.value refl in
    let children_same = set_keeps (λ z. z.children) c.self.inside.nodes.items c.args.node x y c.index_mut.ensures.value refl in
    record {
      sound = rw (parents_same, children_same) c.self.invariant.sound;
      right = rw (parents_same, c.after-self-inside.ensures) (right_changed (λ z. record z { live = false }) c.self.inside.nodes.items _ _ _ c.args.node x y (record { number = λ z. refl; parent = λ z. refl; born = λ z. refl }) (λ z live task. rw task refl) c.self.invariant.right (omega arith) c.index_mut.ensures.value);
      flags = c.self.invariant.flags;
      pending = c.self.invariant.pending;
      visits = rw (length-set c.self.inside.nodes.items c.args.node y) c.self.invariant.visits;
      room = rw (length-set c.self.inside.nodes.items c.args.node y) c.self.invariant.room;
    }

pub invariant_of-self-else-node-len : goal.invariant_of-self-else-node-len
invariant_of-self-else-node-len c = record {
  sound = c.self.invariant.sound;
  right = rw (c.after-self-inside.ensures) (right_unchanged (λ z. record z { live = false }) c.self.inside.nodes.items _ _ _ c.args.node (record { number = λ z. refl; parent = λ z. refl; born = λ z. refl }) c.self.invariant.right (omega arith));
  flags = c.self.invariant.flags;
  pending = c.self.invariant.pending;
  visits = c.self.invariant.visits;
  room = c.self.invariant.room;
}
