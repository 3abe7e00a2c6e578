use Rattle.rt_walk.proofs.Prelude.{◌≡◌, true, sym, rules, take, runs_after, renewed}
use Rattle.rt_walk.proofs.Prefixes.{after-further, breaks-here, broken-unlawful, lawful-further}
use Rattle.rt_walk.proofs.first.first_refused.Goals as goal

pub returns-then-not-branch-clause-first : goal.returns-then-not-branch-clause-first
returns-then-not-branch-clause-first c from is =
    let r = runs_after from (take c.loop-place.place c.args.entries.now) in
    let e = c.index-entries-place.result in
    let so = c.loop-place.invariant from is in
    let here = c.in_ok-begin_next.ensures r so.walked in
    breaks-here from c.args.entries.now c.loop-place.place e c.loop-place-test.true c.index-entries-place.is so.lawful
    (λ m. let t : c.in_ok-may.field-0 ≡ true = (c.in_ok-may.ensures.alike (renewed r e) here).1 m in cc)

pub returns-then-not-branch-clause-lawful : goal.returns-then-not-branch-clause-lawful
returns-then-not-branch-clause-lawful c from is =
    (λ e. cc, λ h. absurd (broken-unlawful from c.args.entries.now c.loop-place.place (returns-then-not-branch-clause-first c from is) h))

pub loop-place-preserved : goal.loop-place-preserved
loop-place-preserved c from is =
    let r = runs_after from (take c.loop-place.place c.args.entries.now) in
    let e = c.index-entries-place.result in
    let so = c.loop-place.invariant from is in
    let here = c.in_ok-begin_next.ensures r so.walked in
    let further = after-further from c.args.entries.now c.loop-place.place e c.loop-place-test.true c.index-entries-place.is in
    record {
      walked = rw further (sym (c.in_ok-step.ensures.alike (renewed r e) here));
      lawful = lawful-further from c.args.entries.now c.loop-place.place e c.loop-place-test.true c.index-entries-place.is so.lawful ((c.in_ok-may.ensures.alike (renewed r e) here).0 (search rules));
    }
