use Rattle.rt_core.proofs.Prelude.{◌≡◌, ◌∙◌, ap, refl, rules, Ok, Err, Some, None, TaskAt, context_on, spawn-tells}
use Rattle.rt_audit.specs.declared.reply.CallReply.TheVariants.{Closed}
use Rattle.rt_core.specs.declared.handover.Handover.{Handover}
use Rattle.rt_core.specs.Contexts.{spawns_with, given_heard}
use Rattle.rt_world.specs.declared.spawning.Spawned.TheVariants.{Runs, Closed as IsClosed}
use Rattle.rt_core.proofs.context.Context.spawn_with.Goals as goal

pub returns-in-Ok-Runs-clause-ok : goal.returns-in-Ok-Runs-clause-ok
returns-in-Ok-Runs-clause-ok g c makes by =
    rw (← c.self.view_is)
    (TaskAt c.in-Ok-Runs.task c.in-Ok-Runs.field-0-1, rw c.in-Ok-Runs.field-0-is at (c.in-Ok-Runs.ensures.ok (λ number. makes (context_on number c.self.inside.name)) (λ number state post. by (context_on number c.self.inside.name) state (search rules))), rw (c.of.ensures, c.in-Ok-Runs.task-is) refl)

pub returns-in-Ok-Runs-clause-taken_in : goal.returns-in-Ok-Runs-clause-taken_in
returns-in-Ok-Runs-clause-taken_in g c =
    let taken = rw c.in-Ok-Runs.field-0-is at c.in-Ok-Runs.ensures.taken_in in
    rw (← c.self.view_is)
    (TaskAt c.in-Ok-Runs.task c.in-Ok-Runs.field-0-1, (taken.0, (search rules), λ makes same. taken.2 (λ number. makes (context_on number c.self.inside.name)) same), rw (c.of.ensures, c.in-Ok-Runs.task-is) refl)

pub returns-in-Ok-Runs-clause-steps : goal.returns-in-Ok-Runs-clause-steps
unfolding spawns_with
returns-in-Ok-Runs-clause-steps g c makes by =
    rw (← c.self.view_is)
    (spawn-tells c.args.world.now c.spawn.new.self (given_heard c.args.given) (Ok (c.of.result, None)) {M = Unit {0}} c.self.inside.node c.self.inside.execution (λ number. makes (context_on number c.self.inside.name)) (Ok (Runs c.in-Ok-Runs.task c.in-Ok-Runs.field-0-1)) (rw c.in-Ok-Runs.field-0-is at (c.in-Ok-Runs.ensures.ok (λ number. makes (context_on number c.self.inside.name)) (λ number state post. by (context_on number c.self.inside.name) state (search rules)))) tt (rw (c.of.ensures, c.in-Ok-Runs.task-is) refl))

pub returns-in-Ok-Runs-clause-polls : goal.returns-in-Ok-Runs-clause-polls
returns-in-Ok-Runs-clause-polls g c makes more end answer left by two = (returns-in-Ok-Runs-clause-steps g c makes by).onward more end answer left two

pub returns-in-Ok-Runs-clause-roots : goal.returns-in-Ok-Runs-clause-roots
returns-in-Ok-Runs-clause-roots g c makes more end root by two = (returns-in-Ok-Runs-clause-steps g c makes by).makes more end root two

pub returns-in-Ok-Closed-clause-ok : goal.returns-in-Ok-Closed-clause-ok
returns-in-Ok-Closed-clause-ok g c makes by =
    let back = rw c.in-Ok-Closed.field-0-is at c.in-Ok-Closed.ensures.closed in
    let given : c.into_given-given.result ≡ c.args.given = c.into_given-given.ensures ∙ ap (λ (h : Handover g.row.C.Denot g.row.F.Denot). h.given) (c.in-Ok-Closed.handover-is ∙ back) in
    rw (← c.self.view_is)
    (Closed, rw c.in-Ok-Closed.field-0-is at (c.in-Ok-Closed.ensures.ok (λ number. makes (context_on number c.self.inside.name)) (λ number state post. by (context_on number c.self.inside.name) state (search rules))), rw (c.ready.ensures, given) refl)

pub returns-in-Ok-Closed-clause-taken_in : goal.returns-in-Ok-Closed-clause-taken_in
returns-in-Ok-Closed-clause-taken_in g c =
    let back = rw c.in-Ok-Closed.field-0-is at c.in-Ok-Closed.ensures.closed in
    let given : c.into_given-given.result ≡ c.args.given = c.into_given-given.ensures ∙ ap (λ (h : Handover g.row.C.Denot g.row.F.Denot). h.given) (c.in-Ok-Closed.handover-is ∙ back) in
    rw (← c.self.view_is)
    (Closed, (λ makes. (rw c.in-Ok-Closed.field-0-is at c.in-Ok-Closed.ensures.taken_in) (λ number. makes (context_on number c.self.inside.name))), rw (c.ready.ensures, given) refl)

pub returns-in-Ok-Closed-clause-steps : goal.returns-in-Ok-Closed-clause-steps
unfolding spawns_with
returns-in-Ok-Closed-clause-steps g c makes by =
    let back = rw c.in-Ok-Closed.field-0-is at c.in-Ok-Closed.ensures.closed in
    let given : c.into_given-given.result ≡ c.args.given = c.into_given-given.ensures ∙ ap (λ (h : Handover g.row.C.Denot g.row.F.Denot). h.given) (c.in-Ok-Closed.handover-is ∙ back) in
    rw (← c.self.view_is, given)
    (spawn-tells c.args.world.now c.spawn.new.self (given_heard c.args.given) (Ok (c.ready.result, Some c.args.given)) {M = Unit {0}} c.self.inside.node c.self.inside.execution (λ number. makes (context_on number c.self.inside.name)) (Ok (IsClosed tt)) (rw c.in-Ok-Closed.field-0-is at (c.in-Ok-Closed.ensures.ok (λ number. makes (context_on number c.self.inside.name)) (λ number state post. by (context_on number c.self.inside.name) state (search rules)))) tt (rw c.ready.ensures refl))

pub returns-in-Ok-Closed-clause-polls : goal.returns-in-Ok-Closed-clause-polls
returns-in-Ok-Closed-clause-polls g c makes more end answer left by two = (returns-in-Ok-Closed-clause-steps g c makes by).onward more end answer left two

pub returns-in-Ok-Closed-clause-roots : goal.returns-in-Ok-Closed-clause-roots
returns-in-Ok-Closed-clause-roots g c makes more end root by two = (returns-in-Ok-Closed-clause-steps g c makes by).makes more end root two

pub returns-in-Err-clause-err : goal.returns-in-Err-clause-err
returns-in-Err-clause-err g c makes =
    rw (← c.self.view_is) (c.in-Err.ensures.err (λ number. makes (context_on number c.self.inside.name)))

pub returns-in-Err-clause-steps : goal.returns-in-Err-clause-steps
unfolding spawns_with
returns-in-Err-clause-steps g c makes by =
    rw (← c.self.view_is)
    (spawn-tells c.args.world.now c.spawn.new.self (given_heard c.args.given) (Err c.in-Err.error) c.self.inside.node c.self.inside.execution (λ number. makes (context_on number c.self.inside.name)) (Err (c.in-Err.error, c.in-Err.handover)) tt (c.in-Err.ensures.err (λ number. makes (context_on number c.self.inside.name))) refl)

pub returns-in-Err-clause-polls : goal.returns-in-Err-clause-polls
returns-in-Err-clause-polls g c makes more end answer left by two = (returns-in-Err-clause-steps g c makes by).onward more end answer left two

pub returns-in-Err-clause-roots : goal.returns-in-Err-clause-roots
returns-in-Err-clause-roots g c makes more end root by two = (returns-in-Err-clause-steps g c makes by).makes more end root two
