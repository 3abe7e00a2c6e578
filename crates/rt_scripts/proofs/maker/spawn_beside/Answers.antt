use Rattle.rt_scripts.proofs.Prelude.{Ok, Err, LacksMemory, Child, Plainly, childs, child_heard, kept-kept, tells-lacking, rooted-lacks, beside, passed_over, placed_beside, text_at}
use Rattle.rt_scripts.proofs.Makings.{prepares-after}
use Rattle.rt_scripts.proofs.maker.spawn_beside.Goals as goal

pub returns-in_default-clause-kept : goal.returns-in_default-clause-kept
returns-in_default-clause-kept g c = kept-kept c.args.world.now c.lack.new.self c.close.new.world c.lack.ensures.kept c.close.ensures.kept

pub returns-in_default-clause-steps : goal.returns-in_default-clause-steps
unfolding beside childs
returns-in_default-clause-steps g c next =
    let context = c.args.context in
    let program = c.args.program.now in
    let label = (text_at program c.args.script).name in
    (tells-lacking c.args.world.now c.lack.new.self (child_heard context label) (Err LacksMemory) (Plainly (Child context.node label)) c.lack.ensures.state).makes (λ made u. placed_beside context program c.args.script next made) c.close.new.world (Err (record {})) (c.close.ensures.closed.makes next c.close.new.world (Err (record {})) (rooted-lacks _ next _))

pub returns-in-Ok-child-clause-steps : goal.returns-in-Ok-child-clause-steps
unfolding beside
returns-in-Ok-child-clause-steps g c next =
    let context = c.args.context in
    let program = c.args.program.now in
    prepares-after (beside context program c.args.script next) (placed_beside context program c.args.script next (Ok c.in-Ok-child.child)) next c.args.world.now c.child.new.world c.start_beside.new.world c.start_beside.result
    (λ end root rooted. (rw c.script_name.ensures at c.in-Ok-child.ensures.steps).makes (λ made u. placed_beside context program c.args.script next made) end root rooted)
    (rw c.in-Ok.ensures at (c.start_beside.ensures.steps next))

pub returns-in-Err-clause-steps : goal.returns-in-Err-clause-steps
unfolding beside
returns-in-Err-clause-steps g c next =
    let context = c.args.context in
    let program = c.args.program.now in
    prepares-after (beside context program c.args.script next) (passed_over context next c.in-Err.error) next c.args.world.now c.child.new.world c.pass_over.new.world c.pass_over.result
    (λ end root rooted. (rw c.script_name.ensures at c.in-Err.ensures.steps).makes (λ made u. placed_beside context program c.args.script next made) end root rooted)
    (c.pass_over.ensures.steps next)
