use Rattle.rt_scripts.proofs.Prelude.{◌≡◌, ◌<◌, ◌∷◌, ◌∙◌, length, subst, ap, rules, Err, List, All-tail, Gives, kept-kept, root_context, Maker, begun, besides, making}
use Rattle.std.specs.List.{All}
use Rattle.rt_scripts.proofs.Makings.{leads-beside, lacks-beside, leads-root}
use Rattle.rt_scripts.proofs.maker.RootScriptRootMakerScript.make.Goals as goal

pub returns-in_err-context-clause-steps : goal.returns-in_err-context-clause-steps
returns-in_err-context-clause-steps g c =
    let i = c.loop-place.invariant in
    let program = c.args.self.program in
    let last = Gives tt (begun c.args.self) in
    let tail = c.in-Some.tail.now in
    let whole : c.loop-place.rest.now ≡ c.in-Some.place.now ∷ tail = search rules in
    let lacks = rw (ap (λ (m : Maker). m.program) c.self.view_is, i.context) at (c.in_err-context.ensures.steps (besides root_context program tail last)) in
    let given : c.from_residual.result ≡ Err (record {}) = search rules in
    rw given
    (lacks-beside program c.loop-place.rest.now tail c.in-Some.place.now last (making c.args.self) c.args.world.now c.loop-place.world c.spawn_beside.new.world whole (record {}) i.leads lacks)

pub loop-place-preserved : goal.loop-place-preserved
loop-place-preserved g c =
    let i = c.loop-place.invariant in
    let program = c.args.self.program in
    let last = Gives tt (begun c.args.self) in
    let place = c.in-Some.place.now in
    let tail = c.in-Some.tail.now in
    let whole : c.loop-place.rest.now ≡ place ∷ tail = search rules in
    record {
      kept = kept-kept _ _ _ i.kept c.spawn_beside.ensures.kept;
      context = c.in_ok-context.ensures.context ∙ i.context;
      within = All-tail (λ at. at < length program) place tail (subst (λ (ps : List _). All (λ at. at < length program) ps) whole i.within);
      leads = leads-beside program c.loop-place.rest.now tail place last (making c.args.self) c.args.world.now c.loop-place.world c.spawn_beside.new.world whole i.leads (rw (ap (λ (m : Maker). m.program) c.self.view_is, i.context) at (c.in_ok-context.ensures.steps (besides root_context program tail last)));
    }

pub returns-clause-steps : goal.returns-clause-steps
returns-clause-steps g c =
    leads-root c.args.self.program c.loop-place.rest.now (begun c.args.self) c.new.result (making c.args.self) c.args.world.now c.loop-place.world c.in_default.ensures.cases (search rules) c.loop-place.invariant.leads
