use Rattle.rt_walk.proofs.Prelude.{◌≡◌, ◌∙◌, ap, sym, refl, Some, None, first_place, children_of, links_of, numbers_of, told_by}
use Rattle.rt_walk.proofs.Ended.{ended-given_up, given_up}
use Rattle.rt_walk.proofs.Families.{elders-same}
use Rattle.rt_walk.proofs.Rows.{put-at, change-none, numbers-changed, links-changed}
use Rattle.rt_walk.proofs.nodes.Nodes.release.Goals as goal

pub invariant_of-self : goal.invariant_of-self
invariant_of-self c =
    let i = c.self.inside in
    let xs = i.rows.items in
    let there : first_place c.args.node (numbers_of xs) ≡ Some c.in-Some.place = ap (first_place c.args.node) (sym c.self.invariant.placed) ∙ sym c.in-Some.ensures in
    let distinct = rw c.self.invariant.placed at c.self.invariant.distinct in
    let is = put-at (given_up) c.args.node c.in-Some.place xs c.index_mut.result.now _ distinct there c.index_mut.ensures.value (ap (given_up) c.behind-self.view_is) in
    let links = ap links_of is ∙ links-changed (given_up) c.args.node (λ x. refl) (λ x. refl) xs in
    record {
      ended = ended-given_up i.ended.numbers xs _ i.ends.items c.args.node is c.self.invariant.ended;
      placed = c.self.invariant.placed ∙ sym (ap numbers_of is ∙ numbers-changed (given_up) c.args.node (λ x. refl) xs);
      distinct = c.self.invariant.distinct;
      children = λ node. c.self.invariant.children node ∙ ap (λ all. children_of all node) (sym links);
      elders = elders-same (links_of xs) _ links c.self.invariant.elders;
    }

pub returns-in-Some : goal.returns-in-Some
returns-in-Some c =
    let i = c.self.inside in
    let xs = i.rows.items in
    let there : first_place c.args.node (numbers_of xs) ≡ Some c.in-Some.place = ap (first_place c.args.node) (sym c.self.invariant.placed) ∙ sym c.in-Some.ensures in
    let distinct = rw c.self.invariant.placed at c.self.invariant.distinct in
    let is = put-at (given_up) c.args.node c.in-Some.place xs c.index_mut.result.now _ distinct there c.index_mut.ensures.value (ap (given_up) c.behind-self.view_is) in
    rw (← c.self.view_is) (ap (λ ys. told_by ys i.ends.items) is)

pub returns-in-None : goal.returns-in-None
returns-in-None c =
    let i = c.self.inside in
    let gone : first_place c.args.node (numbers_of i.rows.items) ≡ None = ap (first_place c.args.node) (sym c.self.invariant.placed) ∙ sym c.in-None.ensures in
    rw (← c.self.view_is) (ap (λ ys. told_by ys i.ends.items) (sym (change-none (given_up) c.args.node i.rows.items gone)))
