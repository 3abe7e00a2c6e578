use Rattle.rt_walk.proofs.Prelude.{◌≡◌, ◌∙◌, ap, sym, Some, None, NodeState, first_place, numbers_of}
use Rattle.rt_walk.proofs.Rows.{row-here, row-none}
use Rattle.rt_walk.proofs.nodes.Nodes.at.Goals as goal

pub returns-in-Some : goal.returns-in-Some
returns-in-Some c =
    let xs = c.self.inside.rows.items in
    let there : first_place c.args.number (numbers_of xs) ≡ Some c.in-Some.place = ap (first_place c.args.number) (sym c.self.invariant.placed) ∙ sym c.in-Some.ensures in
    rw (← c.self.view_is) (ap (λ (x : NodeState). Some x) c.index.ensures ∙ sym (row-here c.args.number c.in-Some.place xs c.index.result.now there))

pub returns-in-None : goal.returns-in-None
returns-in-None c =
    let xs = c.self.inside.rows.items in
    let gone : first_place c.args.number (numbers_of xs) ≡ None = ap (first_place c.args.number) (sym c.self.invariant.placed) ∙ sym c.in-None.ensures in
    rw (← c.self.view_is) (sym (row-none c.args.number xs gone))
