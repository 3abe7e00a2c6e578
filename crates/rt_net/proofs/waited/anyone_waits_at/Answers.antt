use Rattle.rt_net.proofs.Prelude.{◌<◌, ◌||◌, length, ap, ◌∙◌, arith, rules}
use Rattle.rt_net.proofs.Walked.{any-more, all-more}
use Rattle.rt_net.proofs.waited.anyone_waits_at.Goals as goal

pub loop-index-preserved : goal.loop-index-preserved
loop-index-preserved g c =
    let xs = c.args.places.now.items in
    let within : c.loop-index.index < length xs = search (rules, arith) in
    record {
      found = ap (λ b. c.loop-index.found || b) c.anyone_waits-found.ensures.answer ∙ any-more g.W.Waited.waited xs c.loop-index.index c.index.result.now c.loop-index.found within c.index.ensures c.loop-index.invariant.found;
      quiet = all-more g.W.Waited.quiet xs c.loop-index.index c.index.result.now within c.index.ensures c.anyone_waits-found.ensures.quiet c.loop-index.invariant.quiet;
    }
