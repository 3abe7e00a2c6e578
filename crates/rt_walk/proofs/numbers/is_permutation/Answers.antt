use Rattle.rt_walk.proofs.Permutations.{permutation-decides}
use Rattle.rt_walk.proofs.numbers.is_permutation.Goals as goal

pub returns : goal.returns
returns c =
    let e = permutation-decides c.in_ok-sorted.sorted.items c.in_ok-other.other.items c.sort_unstable.new.self.items c.sort_unstable-2.new.self.items c.eq.result c.sort_unstable.ensures.permutation c.sort_unstable-2.ensures.permutation c.sort_unstable.ensures.sorted c.sort_unstable-2.ensures.sorted c.eq.ensures in
    rw (c.in_ok-sorted.ensures.items_if_clones_equal, c.in_ok-other.ensures.items_if_clones_equal) at e
