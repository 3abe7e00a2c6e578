use Rattle.rt_world.proofs.Prelude.{refl, sym, ◌∙◌, with_first, Steps}
use Rattle.rt_world.proofs.Follows.{unmade-tied, unmade-broken}
use Rattle.rt_world.proofs.Drawn.{seals-crashed}
use Rattle.rt_world.proofs.Walked.{spent-fresh, spent-short, long}
use Rattle.rt_world.proofs.ends.World+T+T+Output+G.crash_unmade.Goals as goal

pub returns-then-lacked-clause-agrees : goal.returns-then-lacked-clause-agrees
returns-then-lacked-clause-agrees g c first whole output f =
    let p : Steps g.row.T.Denot g.row.T-Output.Denot = with_first g.T.Task.steps first in
    let i = c.requires.closing in
    rw (c.crash.ensures, c.take_short-lacked.ensures.gone)
    (unmade-broken p c.args.self.now c.end.new.world c.args.unmade i.calls c.end.ensures.kept c.facts.ensures.calls c.facts.ensures.state output whole (rw i.out at (spent-short c.args.self.now c.end.new.world _ i.turns i.lacked (sym c.take_short-lacked.ensures.was ∙ c.if-lacked.true) c.end.ensures.steps)) f)

pub returns-clause-agrees : goal.returns-clause-agrees
returns-clause-agrees g c first whole output f =
    let p : Steps g.row.T.Denot g.row.T-Output.Denot = with_first g.T.Task.steps first in
    let i = c.requires.closing in
    rw (c.crash.ensures, c.take_short-lacked.ensures.gone)
    (unmade-tied p c.args.self.now c.end.new.world c.args.unmade i.calls c.end.ensures.kept c.facts.ensures.calls c.facts.ensures.state output whole (rw i.out at (spent-fresh c.args.self.now c.end.new.world _ i.turns (long (sym c.if-lacked.false ∙ c.take_short-lacked.ensures.was)) c.end.ensures.steps)) f)

pub returns-then-lacked-clause-seals : goal.returns-then-lacked-clause-seals
returns-then-lacked-clause-seals g c =
    seals-crashed g.G.Rng.stream c.args.self.now c.end.new.world c.crash.new.self c.requires.closing c.requires.running c.end.ensures.kept c.facts.ensures.none (rw (c.crash.ensures, c.take_short-lacked.ensures.gone) refl)

pub returns-clause-seals : goal.returns-clause-seals
returns-clause-seals g c =
    seals-crashed g.G.Rng.stream c.args.self.now c.end.new.world c.crash.new.self c.requires.closing c.requires.running c.end.ensures.kept c.facts.ensures.none (rw (c.crash.ensures, c.take_short-lacked.ensures.gone) refl)
