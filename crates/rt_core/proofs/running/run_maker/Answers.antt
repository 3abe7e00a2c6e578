use Rattle.rt_core.proofs.Prelude.{◌∙◌, inl, None, false, refl, sym, with_first, Steps, rooted-broken, rooted-short, rooted-fresh, long}
use Rattle.rt_core.proofs.Outcomes.{ended-cut, leaves-unmade, unmade, none-made, made}
use Rattle.rt_core.proofs.running.run_maker.Goals as goal

pub returns-in_default-clause-agrees : goal.returns-in_default-clause-agrees
returns-in_default-clause-agrees g c f =
    let first = g.M.RootMaker.first c.args.maker in
    let p : Steps g.row.T.Denot g.row.T-Output.Denot = with_first g.T.Task.steps first in
    let kept = c.make.ensures.kept in
    let breaks = rooted-broken c.args.world.now c.make.new.world _ c.requires.turns _ c.requires.ready.unmarked (rw c.in_default.is at c.make.ensures.steps) in
    ended-cut p _ _ None None false
    (c.cleanup_unmade.ensures.agrees first false
    (unmade p c.args.world.now c.make.new.world None kept (c.facts.ensures.follows p c.args.world.now.told _ (rw c.requires.ready.calm at f) c.requires.calls kept.begin kept.past) (none-made _ _ None refl breaks)))

pub returns-then-is_short-clause-agrees : goal.returns-then-is_short-clause-agrees
returns-then-is_short-clause-agrees g c f =
    let first = g.M.RootMaker.first c.args.maker in
    let p : Steps g.row.T.Denot g.row.T-Output.Denot = with_first g.T.Task.steps first in
    let kept = c.make.ensures.kept in
    let breaks = rooted-short c.args.world.now c.make.new.world _ c.requires.turns _ c.requires.ready.unmarked (sym c.if-is_short.ensures) c.make.ensures.steps in
    ended-cut p _ _ None None false
    (c.cleanup_unmade-then-is_short.ensures.agrees first false
    (unmade p c.args.world.now c.make.new.world _ kept (c.facts-2.ensures.follows p c.args.world.now.told _ (rw c.requires.ready.calm at f) c.requires.calls kept.begin kept.past) (inl breaks)))

pub returns-clause-agrees : goal.returns-clause-agrees
returns-clause-agrees g c f =
    let first = g.M.RootMaker.first c.args.maker in
    let p : Steps g.row.T.Denot g.row.T-Output.Denot = with_first g.T.Task.steps first in
    let kept = c.make.ensures.kept in
    let walks = rooted-fresh c.args.world.now c.make.new.world _ c.requires.turns _ (long (sym c.if-is_short.false ∙ c.is_short.ensures)) (rw c.in-Ok.is at c.make.ensures.steps) in
    c.take_in.ensures.agrees first
    (made p c.args.world.now c.make.new.world _ kept (c.facts-2.ensures.follows p c.args.world.now.told _ (rw c.requires.ready.calm at f) c.requires.calls kept.begin kept.past) walks)

pub returns-in_default-clause-leaves : goal.returns-in_default-clause-leaves
returns-in_default-clause-leaves g c =
    leaves-unmade _ c.args.world.now c.make.new.world c.cleanup_unmade.new.self _ c.make.ensures.kept c.cleanup_unmade.ensures.seals c.cleanup_unmade.ensures.phase c.cleanup_unmade.ensures.cause

pub returns-then-is_short-clause-leaves : goal.returns-then-is_short-clause-leaves
returns-then-is_short-clause-leaves g c =
    leaves-unmade _ c.args.world.now c.make.new.world c.cleanup_unmade-then-is_short.new.self _ c.make.ensures.kept c.cleanup_unmade-then-is_short.ensures.seals c.cleanup_unmade-then-is_short.ensures.phase c.cleanup_unmade-then-is_short.ensures.cause
