use Rattle.rt_core.proofs.Prelude.{◌≡◌, Err, inr, rules}
use Rattle.rt_core.proofs.Spawned.{start-closed, start-refused, start-spawned}
use Rattle.rt_core.proofs.context.Context.start.Goals as goal

pub returns-in_err-child-clause-steps : goal.returns-in_err-child-clause-steps
returns-in_err-child-clause-steps g c makes by =
    let same : c.from_residual.result ≡ Err c.in_err-child.field-0.0 = search rules in
    rw same (start-refused c.args.self.now c.args.label.now makes c.args.world.now c.child.new.world c.in_err-child.field-0.0 (rw c.in_err-child.was at c.child.ensures.steps))

pub returns-in-Ok-clause-ok : goal.returns-in-Ok-clause-ok
returns-in-Ok-clause-ok g c =
    let made = c.in_ok-child.ensures.ok in
    (c.child.new.world, c.in_ok-child.child.node, made.0, made.1, rw c.in_ok-child.ensures.name at c.in-Ok.ensures.taken_in)

pub returns-in-Ok-clause-steps : goal.returns-in-Ok-clause-steps
returns-in-Ok-clause-steps g c makes by =
    start-spawned c.args.self.now c.args.label.now makes c.args.world.now c.child.new.world c.spawn.new.world c.in_ok-child.child c.in-Ok.handle (rw c.in_ok-child.was at c.child.ensures.steps) (c.in-Ok.ensures.steps makes by)

pub returns-in-Err-clause-err : goal.returns-in-Err-clause-err
returns-in-Err-clause-err g c =
    let made = c.in_ok-child.ensures.ok in
    inr (c.child.new.world, c.spawn.new.world, c.in_ok-child.child.node, made.0, made.1, (λ makes. rw c.in_ok-child.ensures.name at (c.in-Err.ensures.err makes)), rw c.in-Err.ensures.back at c.close.ensures.closed.spent)

pub returns-in-Err-clause-steps : goal.returns-in-Err-clause-steps
returns-in-Err-clause-steps g c makes by =
    start-closed c.args.self.now c.args.label.now makes c.args.world.now c.child.new.world c.spawn.new.world c.close.new.world c.in_ok-child.child c.in-Err.refused.error (rw c.in_ok-child.was at c.child.ensures.steps) (c.in-Err.ensures.steps makes by) (rw c.in-Err.ensures.back at c.close.ensures.closed)

pub returns-in_err-child-clause-polls : goal.returns-in_err-child-clause-polls
returns-in_err-child-clause-polls g c makes more end answer left by two = (returns-in_err-child-clause-steps g c makes by).onward more end answer left two

pub returns-in_err-child-clause-roots : goal.returns-in_err-child-clause-roots
returns-in_err-child-clause-roots g c makes more end root by two = (returns-in_err-child-clause-steps g c makes by).makes more end root two

pub returns-in-Ok-clause-polls : goal.returns-in-Ok-clause-polls
returns-in-Ok-clause-polls g c makes more end answer left by two = (returns-in-Ok-clause-steps g c makes by).onward more end answer left two

pub returns-in-Ok-clause-roots : goal.returns-in-Ok-clause-roots
returns-in-Ok-clause-roots g c makes more end root by two = (returns-in-Ok-clause-steps g c makes by).makes more end root two

pub returns-in-Err-clause-polls : goal.returns-in-Err-clause-polls
returns-in-Err-clause-polls g c makes more end answer left by two = (returns-in-Err-clause-steps g c makes by).onward more end answer left two

pub returns-in-Err-clause-roots : goal.returns-in-Err-clause-roots
returns-in-Err-clause-roots g c makes more end root by two = (returns-in-Err-clause-steps g c makes by).makes more end root two
