use Rattle.rt_core.proofs.Prelude.{refl, rules, Plain, handle_heard, spawns}
use Rattle.rt_world.proofs.Walked.{tells-made, tells-refused}
use Rattle.rt_core.specs.Contexts.{spawning}
use Rattle.rt_core.proofs.Spawned.{asked-also, handle-alone}
use Rattle.rt_core.proofs.context.Context.spawn.Goals as goal

pub returns-in-Ok-clause-ok : goal.returns-in-Ok-clause-ok
returns-in-Ok-clause-ok g c makes by =
    let is = c.in-Ok.ensures.ok makes (λ context state post. by context state (search rules)) in
    (is.0, is.1, handle-alone tt is.0 _ is.2)

pub returns-in-Ok-clause-taken_in : goal.returns-in-Ok-clause-taken_in
returns-in-Ok-clause-taken_in g c =
    let is = c.in-Ok.ensures.taken_in in
    (is.0, asked-also (λ own state. Unit {0} × goal.F-post g c.args.make own state) (goal.F-post g c.args.make) _ _ _ is.0 is.1 (λ own state post. post.1), handle-alone tt is.0 _ is.2)

pub returns-in-Ok-clause-steps : goal.returns-in-Ok-clause-steps
unfolding spawns
returns-in-Ok-clause-steps g c makes by =
    let is = returns-in-Ok-clause-ok g c makes by in
    tells-made c.args.world.now c.spawn_with.new.world handle_heard _ (spawning c.args.self makes) is.0 (Plain is.0) is.1 (refl, tt) refl is.2

pub returns-in-Ok-clause-polls : goal.returns-in-Ok-clause-polls
returns-in-Ok-clause-polls g c makes more end answer left by two = (returns-in-Ok-clause-steps g c makes by).onward more end answer left two

pub returns-in-Ok-clause-roots : goal.returns-in-Ok-clause-roots
returns-in-Ok-clause-roots g c makes more end root by two = (returns-in-Ok-clause-steps g c makes by).makes more end root two

pub returns-in-Err-clause-steps : goal.returns-in-Err-clause-steps
unfolding spawns
returns-in-Err-clause-steps g c makes by =
    tells-refused c.args.world.now c.spawn_with.new.world handle_heard _ (spawning c.args.self makes) _ (refl, tt) refl (c.in-Err.ensures.err makes) refl

pub returns-in-Err-clause-polls : goal.returns-in-Err-clause-polls
returns-in-Err-clause-polls g c makes more end answer left by two = (returns-in-Err-clause-steps g c makes by).onward more end answer left two

pub returns-in-Err-clause-roots : goal.returns-in-Err-clause-roots
returns-in-Err-clause-roots g c makes more end root by two = (returns-in-Err-clause-steps g c makes by).makes more end root two
