use Rattle.rt_scripts.proofs.Prelude.{rules, Ok, passed_over, placed_beside, spawned_beside, started}
use Rattle.rt_scripts.proofs.Makings.{prepares-after}
use Rattle.rt_scripts.proofs.maker.start_beside.Goals as goal

pub returns-in-Err-clause-steps : goal.returns-in-Err-clause-steps
returns-in-Err-clause-steps g c next =
    let context = c.args.context in
    let child = c.args.child in
    let spawned = c.in-Err.ensures.steps (started c.args.program c.args.script) (λ own state post. search rules) in
    prepares-after (placed_beside context c.args.program c.args.script next (Ok child)) (passed_over context next c.in-Err.refused.error) next c.args.world.now c.close.new.world c.pass_over.new.world c.pass_over.result
    (λ end root rooted. spawned.makes (λ told u. spawned_beside context next child told) end root (rw c.in-Err.ensures.back at (c.close.ensures.closed.makes (passed_over context next c.in-Err.refused.error) end root rooted)))
    (c.pass_over.ensures.steps next)
