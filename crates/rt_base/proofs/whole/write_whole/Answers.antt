use Rattle.std.proofs.Common.{rules, arith}
use Rattle.rt_base.proofs.Outsides.{appends_on}
use Rattle.rt_base.proofs.whole.write_whole.Goals as goal

pub loop-written-preserved : goal.loop-written-preserved
loop-written-preserved g c =
    (search rules, omega (arith, c.in_ok-written.ensures.counted, c.loop-written.invariant.1), appends_on _ _ _ _ _ _ c.loop-written.invariant.2 c.in_ok-written.ensures.appended)
