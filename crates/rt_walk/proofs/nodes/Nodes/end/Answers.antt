use Rattle.rt_walk.proofs.Prelude.{◌≡◌, ◌++◌, ◌∷◌, [], rules}
use Rattle.rt_walk.proofs.Ended.{ended-by}
use Rattle.rt_walk.proofs.nodes.Nodes.end.Goals as goal

pub invariant_of-self-2 : goal.invariant_of-self-2
invariant_of-self-2 c =
    let pushed : c.push_all.new.self.numbers ≡ c.self.inside.ended.numbers ++ c.in_ok-fresh.fresh.items = search rules in
    let ends : c.push_reserved.new.self.items ≡ c.self.inside.ends.items ++ c.args.node ∷ [] = search rules in
    record {
      ended = ended-by c.args.self.now c.self.inside.ended.numbers c.push_all.new.self.numbers c.in_ok-fresh.fresh.items c.self.inside.rows.items c.self.inside.ends.items c.push_reserved.new.self.items c.args.node c.self.view_is c.in_ok-fresh.ensures pushed ends c.self.invariant.ended;
      placed = c.self.invariant.placed;
      distinct = c.self.invariant.distinct;
      children = c.self.invariant.children;
      elders = c.self.invariant.elders;
    }
