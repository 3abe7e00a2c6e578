use Rattle.rt_metrics.proofs.Prelude.{◌≤◌, ◌+◌, arith, sym, ◌∙◌}
use Rattle.rt_metrics.proofs.Several.{one_more}
use Rattle.rt_metrics.proofs.registry.put_firsts.Goals as goal

pub loop-id-preserved : goal.loop-id-preserved
loop-id-preserved c =
    let low : c.loop-id.id + 1 ≤ c.args.end = omega (arith, c.loop-id-test.true) in
    let same = one_more c.args.kind c.loop-id.values.entries c.loop-id.id c.args.end low in
    (omega (arith, c.put_first.ensures.spare, c.loop-id.invariant.0, low), rw c.put_first.ensures.entries (sym same ∙ c.loop-id.invariant.1))
