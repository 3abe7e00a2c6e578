use Rattle.rt_walk.proofs.Prelude.{rules, ◌≡◌}
use Rattle.rt_walk.proofs.walker.Walker.is_announced.Goals as goal

pub returns : goal.returns
returns c =
    let same : c.args.self.now.announced ≡ c.as_slice.result.now = search rules in
    rw same (c.is_of_call.ensures c.args.self.now.stood)
