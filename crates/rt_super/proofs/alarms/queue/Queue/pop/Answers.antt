use Rattle.rt_super.proofs.QueueLemmas.{none_popped, ordered_popped, popped}
use Rattle.rt_super.proofs.alarms.queue.Queue.pop.Goals as goal

pub invariant_of-self : goal.invariant_of-self
invariant_of-self c =
    let left = c.pop_first-self-inside.ensures in
    let is = popped c.self.inside.first c.pop_first-self-inside.result c.in_ok-first.first c.self.inside.later.entries c.pop_first-self-inside.new.self.entries c.in_ok-first.was left.removal left.unchanged in
    (ordered_popped _ _ c.in_ok-first.first is c.self.invariant.0, none_popped c.pop_first-self-inside.result _ _ left.unchanged left.variant.1)

pub returns-clause-ordered : goal.returns-clause-ordered
returns-clause-ordered c =
    let left = c.pop_first-self-inside.ensures in
    let is = popped c.self.inside.first c.pop_first-self-inside.result c.in_ok-first.first c.self.inside.later.entries c.pop_first-self-inside.new.self.entries c.in_ok-first.was left.removal left.unchanged in
    ordered_popped _ _ c.in_ok-first.first is c.self.invariant.0
