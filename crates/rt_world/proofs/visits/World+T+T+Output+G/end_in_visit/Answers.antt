use Rattle.rt_world.proofs.Prelude.{◌≡◌, sym, ◌∙◌, refl, None, true, false, with_first, Steps, number_of}
use Rattle.rt_world.proofs.Blocks.{popped}
use Rattle.rt_world.proofs.Follows.{ended-tied, ended-broken, follows-calmly}
use Rattle.rt_world.proofs.Drawn.{passes-ended}
use Rattle.rt_world.proofs.Walked.{spent-fresh, spent-short, long}
use Rattle.rt_world.proofs.visits.World+T+T+Output+G.end_in_visit.Goals as goal

pub returns-then-lacked-clause-agrees : goal.returns-then-lacked-clause-agrees
returns-then-lacked-clause-agrees g c first f =
    let p : Steps g.row.T.Denot g.row.T-Output.Denot = with_first g.T.Task.steps first in
    let block = c.take_state-block in
    let there = block.ensures.state ∙ popped block.result.items c.pop.new.self.items c.in-Some.state block.ensures.one c.in-Some.ensures.items in
    let taken = c.take_state-block.ensures.rest in
    let fresh = c.requires.fresh in
    let number : number_of c.take_state-block.new.self.out ≡ c.args.task = rw taken refl in (
      false,
      rw (c.end_visit.ensures.rest, c.take_short-lacked.ensures.gone)
          (follows-calmly p _ c.end_visit.new.self.told _ (rw c.take_short-lacked.ensures.gone at c.end_visit.ensures.calm)
          (ended-broken p c.args.self.now c.take_state-block.new.self c.end.new.world c.args.task c.in-Some.state taken fresh.calls c.end.ensures.kept c.facts.ensures.calls c.facts.ensures.state None None true there
          (rw number at (spent-short c.take_state-block.new.self c.end.new.world _ (rw taken fresh.turns) (rw taken fresh.lacked) (sym c.take_short-lacked.ensures.was ∙ c.if-lacked.true) c.end.ensures.steps)) f)),
    )

pub returns-clause-agrees : goal.returns-clause-agrees
returns-clause-agrees g c first f =
    let p : Steps g.row.T.Denot g.row.T-Output.Denot = with_first g.T.Task.steps first in
    let block = c.take_state-block in
    let there = block.ensures.state ∙ popped block.result.items c.pop.new.self.items c.in-Some.state block.ensures.one c.in-Some.ensures.items in
    let taken = c.take_state-block.ensures.rest in
    let fresh = c.requires.fresh in
    let number : number_of c.take_state-block.new.self.out ≡ c.args.task = rw taken refl in
    rw (c.end_visit.ensures.rest, c.take_short-lacked.ensures.gone)
    (follows-calmly p _ c.end_visit.new.self.told _ (rw c.take_short-lacked.ensures.gone at c.end_visit.ensures.calm)
    (ended-tied p c.args.self.now c.take_state-block.new.self c.end.new.world c.args.task c.in-Some.state taken fresh.calls c.end.ensures.kept c.facts.ensures.calls c.facts.ensures.state None None true there
    (rw number at (spent-fresh c.take_state-block.new.self c.end.new.world _ (rw taken fresh.turns) (long (sym c.if-lacked.false ∙ c.take_short-lacked.ensures.was)) c.end.ensures.steps)) f))

pub returns-then-lacked-clause-passes : goal.returns-then-lacked-clause-passes
returns-then-lacked-clause-passes g c =
    passes-ended g.G.Rng.stream c.args.self.now c.take_state-block.new.self c.end.new.world c.args.task c.requires.fresh.calls c.take_state-block.ensures.rest c.end.ensures.kept c.end_visit.new.self
    (rw c.take_short-lacked.ensures.gone at c.end_visit.ensures.passes)

pub returns-clause-passes : goal.returns-clause-passes
returns-clause-passes g c =
    passes-ended g.G.Rng.stream c.args.self.now c.take_state-block.new.self c.end.new.world c.args.task c.requires.fresh.calls c.take_state-block.ensures.rest c.end.ensures.kept c.end_visit.new.self
    (rw c.take_short-lacked.ensures.gone at c.end_visit.ensures.passes)
