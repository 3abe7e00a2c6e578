use Rattle.rt_world.proofs.Prelude.{◌≡◌, sym, ◌∙◌, refl, with_first, Steps, number_of}
use Rattle.rt_world.proofs.Blocks.{popped}
use Rattle.rt_world.proofs.Follows.{ended-tied, ended-broken}
use Rattle.rt_world.proofs.Drawn.{writes-ended}
use Rattle.rt_world.proofs.Walked.{spent-fresh, spent-short, long}
use Rattle.rt_world.proofs.ends.World+T+T+Output+G.end_task.Goals as goal

pub returns-then-lacked-clause-agrees : goal.returns-then-lacked-clause-agrees
returns-then-lacked-clause-agrees g c first whole output unmade f =
    let p : Steps g.row.T.Denot g.row.T-Output.Denot = with_first g.T.Task.steps first in
    let block = c.take_state-block in
    let there = block.ensures.state ∙ popped block.result.items c.pop.new.self.items c.in-Some.state block.ensures.one c.in-Some.ensures.items in
    let taken = rw c.ends_next.ensures.same at c.take_state-block.ensures.rest in
    let state = rw c.ends_next.ensures.same at there in
    let number : number_of c.take_state-block.new.self.out ≡ c.in_ok-task.task = rw taken refl in
    rw (c.task_ended.ensures, c.take_short-lacked.ensures.gone)
    (ended-broken p c.args.self.now c.take_state-block.new.self c.end.new.world c.in_ok-task.task c.in-Some.state taken c.requires.calls c.end.ensures.kept c.facts.ensures.calls c.facts.ensures.state output unmade whole state
    (rw number at (spent-short c.take_state-block.new.self c.end.new.world _ (rw taken c.requires.turns) (rw taken c.requires.lacked) (sym c.take_short-lacked.ensures.was ∙ c.if-lacked.true) c.end.ensures.steps)) f)

pub returns-clause-agrees : goal.returns-clause-agrees
returns-clause-agrees g c first whole output unmade f =
    let p : Steps g.row.T.Denot g.row.T-Output.Denot = with_first g.T.Task.steps first in
    let block = c.take_state-block in
    let there = block.ensures.state ∙ popped block.result.items c.pop.new.self.items c.in-Some.state block.ensures.one c.in-Some.ensures.items in
    let taken = rw c.ends_next.ensures.same at c.take_state-block.ensures.rest in
    let state = rw c.ends_next.ensures.same at there in
    let number : number_of c.take_state-block.new.self.out ≡ c.in_ok-task.task = rw taken refl in
    rw (c.task_ended.ensures, c.take_short-lacked.ensures.gone)
    (ended-tied p c.args.self.now c.take_state-block.new.self c.end.new.world c.in_ok-task.task c.in-Some.state taken c.requires.calls c.end.ensures.kept c.facts.ensures.calls c.facts.ensures.state output unmade whole state (rw number at (spent-fresh c.take_state-block.new.self c.end.new.world _ (rw taken c.requires.turns) (long (sym c.if-lacked.false ∙ c.take_short-lacked.ensures.was)) c.end.ensures.steps)) f)

pub returns-then-lacked-clause-writes : goal.returns-then-lacked-clause-writes
returns-then-lacked-clause-writes g c =
    writes-ended g.G.Rng.stream c.args.self.now c.take_state-block.new.self c.end.new.world c.in_ok-task.task c.requires.calls (rw c.ends_next.ensures.same at c.take_state-block.ensures.rest) c.end.ensures.kept c.task_ended.new.self
    (rw (c.task_ended.ensures, c.take_short-lacked.ensures.gone) refl) (rw (c.task_ended.ensures, c.take_short-lacked.ensures.gone) refl)

pub returns-clause-writes : goal.returns-clause-writes
returns-clause-writes g c =
    writes-ended g.G.Rng.stream c.args.self.now c.take_state-block.new.self c.end.new.world c.in_ok-task.task c.requires.calls (rw c.ends_next.ensures.same at c.take_state-block.ensures.rest) c.end.ensures.kept c.task_ended.new.self
    (rw (c.task_ended.ensures, c.take_short-lacked.ensures.gone) refl) (rw (c.task_ended.ensures, c.take_short-lacked.ensures.gone) refl)
