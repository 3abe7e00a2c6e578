use Rattle.std.proofs.Common.{rules, arith}
use Rattle.rt_base.proofs.Outsides.{read_more}
use Rattle.rt_base.proofs.whole.read_whole.Goals as goal

pub loop-source-preserved : goal.loop-source-preserved
loop-source-preserved g c =
    let read = c.in_ok-read_piece.ensures in
    (search rules, omega (arith, read.counted, c.loop-source.invariant.1), read_more _ _ _ _ _ _ _ _ _ _ c.loop-source.invariant.2 read.taken read.appended read.grown)
