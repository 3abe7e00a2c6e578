use Rattle.rt_machine.proofs.Shuffled.{shuffling-more, shuffling-ends}
use Rattle.rt_machine.proofs.shuffle.shuffle.Goals as goal

pub loop-left-preserved : goal.loop-left-preserved
loop-left-preserved g c =
    rw c.swap.ensures.items
    (shuffling-more _ _ _ c.args.journal.now c.loop-left.journal c.push.new.self c.args.numbers.now.items c.loop-left.numbers.items c.loop-left.left c.next_u64-value.result c.loop-left-test.true c.requires.unannounced c.requires.unowed c.loop-left.invariant c.next_u64-value.ensures c.push.ensures.told c.push.ensures.spare c.push.ensures.lacked)

pub returns : goal.returns
returns g c = record { shuffles = shuffling-ends _ _ _ _ _ _ c.loop-left.left c.loop-left-test.false c.loop-left.invariant }
