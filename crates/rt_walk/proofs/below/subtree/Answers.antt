use Rattle.rt_walk.proofs.Prelude.{links}
use Rattle.rt_walk.proofs.Families.{walk-step, walk-less}
use Rattle.rt_walk.proofs.below.subtree.Goals as goal

pub loop-next-preserved : goal.loop-next-preserved
loop-next-preserved c = walk-step (links c.args.nodes.now) c.in-Some.next c.loop-next.pending.items c.pop.new.self.items c.children.result.now c.push_turned.new.pending.items c.children.ensures c.in-Some.ensures.items c.in_ok-push_turned.ensures c.loop-next.numbers.items c.push.new.self.items _ c.in_ok-push.ensures.items c.loop-next.invariant

pub loop-next-smaller : goal.loop-next-smaller
loop-next-smaller c = walk-less (links c.args.nodes.now) c.in-Some.next c.loop-next.pending.items c.pop.new.self.items c.children.result.now c.push_turned.new.pending.items c.children.ensures c.in-Some.ensures.items c.in_ok-push_turned.ensures
