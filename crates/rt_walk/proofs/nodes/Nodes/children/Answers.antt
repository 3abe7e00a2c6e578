use Rattle.rt_walk.proofs.Prelude.{◌∙◌, ap, sym, flat_map, subtree, links_of}
use Rattle.rt_walk.proofs.Families.{below-children}
use Rattle.rt_walk.proofs.nodes.Nodes.children.Goals as goal

pub returns : goal.returns
returns c =
    let i = c.self.inside in
    let kept = below-children (links_of i.rows.items) c.args.node c.self.invariant.elders in
    rw (← c.self.view_is) (kept ∙ ap (flat_map (subtree (links_of i.rows.items))) (sym (c.self.invariant.children c.args.node) ∙ sym c.children-children.ensures))
