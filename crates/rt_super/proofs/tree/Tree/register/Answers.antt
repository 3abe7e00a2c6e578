use Rattle.rt_super.proofs.Prelude.{refl, sym, ◌∙◌, Some, length, ◌<◌, arith, length-set, Node}
use Rattle.rt_super.proofs.Records.{live_within}
use Rattle.rt_super.proofs.Shapes.{count_states, set_keeps, right_changed}
use Rattle.rt_super.proofs.tree.Tree.register.Goals as goal

pub invariant_of-self : goal.invariant_of-self
invariant_of-self c =
    let x = c.index_mut.result.now in
    let y : Node = record { parent = x.parent; live = x.live; task = Some c.args.task; children = x.children } in
    let live = rw (← c.self.view_is) at (sym c.lives.ensures ∙ c.if-not-lives.false) in
    let within : c.args.node < length c.self.inside.nodes.items = omega (arith, live_within _ _ _ _ _ c.self.invariant.right c.args.node live, count_states c.self.inside.nodes.items) in
    let parents_same = set_keeps (λ z. z.parent) c.self.inside.nodes.items c.args.node x y c.index_mut.ensures.value refl in
    let children_same = set_keeps (λ z. z.children) c.self.inside.nodes.items c.args.node x y c.index_mut.ensures.value refl in
    record {
      sound = rw (c.of.ensures, parents_same, children_same) c.self.invariant.sound;
      right = rw (c.of.ensures, parents_same, c.after-self-inside.ensures) (right_changed (λ z. record z { task = Some c.args.task }) c.self.inside.nodes.items _ _ _ c.args.node x y (record { number = λ z. refl; parent = λ z. refl; born = λ z. refl }) (λ z live task. rw live refl) c.self.invariant.right within c.index_mut.ensures.value);
      flags = c.self.invariant.flags;
      pending = c.self.invariant.pending;
      visits = rw (c.of.ensures, length-set c.self.inside.nodes.items c.args.node y) c.self.invariant.visits;
      room = rw (c.of.ensures, length-set c.self.inside.nodes.items c.args.node y) c.self.invariant.room;
    }
