use Rattle.rt_super.proofs.Prelude.{◌≡◌, ◌≤◌, refl, None, length, arith, slice_get, slice_get_past, nat_tests}
use Rattle.rt_super.proofs.Records.{live_kept}
use Rattle.rt_super.proofs.Shapes.{state_at}
use Rattle.rt_super.proofs.tree.Tree.lives.Goals as goal

pub returns-in-None : goal.returns-in-None
returns-in-None c =
    let past : length c.deref.result.now ≤ c.args.node = let h = c.in-None.ensures.lookup.0 in grind (arith, nat_tests) in
    let none : slice_get c.self.inside.nodes.items c.args.node ≡ None = slice_get_past _ _ (rw (c.deref.ensures.value) at past) in
    rw (← c.self.view_is, live_kept _ _ _ _ _ c.self.invariant.right c.args.node, state_at c.self.inside.nodes.items c.args.node, none) refl
