use Rattle.rt_walk.proofs.Prelude.{◌∙◌}
use Rattle.rt_walk.proofs.Rising.{search-finds}
use Rattle.rt_walk.proofs.running.Running.has.Goals as goal

pub returns : goal.returns
returns c =
    let found = search-finds c.args.task c.self.inside.numbers.items c.binary_search.result c.self.invariant (rw c.deref.ensures.value at c.binary_search.ensures.position) in
    rw (← c.self.view_is) (c.is_ok.ensures.value ∙ found)
