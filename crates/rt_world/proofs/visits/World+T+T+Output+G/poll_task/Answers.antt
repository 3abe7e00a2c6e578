use Rattle.rt_world.proofs.Prelude.{◌≡◌, ◌∙◌, sym, refl, inl, inr, true, false, Some, find, is_some_number, with_first, Steps}
use Rattle.rt_world.proofs.Blocks.{set-top, top-of}
use Rattle.rt_world.proofs.Follows.{visit-pending, visit-ready, visit-panicked, visit-cut}
use Rattle.rt_world.proofs.Drawn.{passes-answered}
use Rattle.rt_world.proofs.Walked.{polled-fresh, polled-short, polled-broken, long}
use Rattle.rt_world.proofs.visits.World+T+T+Output+G.poll_task.Goals as goal

pub returns-then-is_short-clause-agrees : goal.returns-then-is_short-clause-agrees
returns-then-is_short-clause-agrees g c first f =
    let p : Steps g.row.T.Denot g.row.T-Output.Denot = with_first g.T.Task.steps first in
    let block = c.take_state-block in
    let there : find c.args.task c.args.self.now.held.tasks ≡ Some c.index_mut.result.now = block.ensures.state ∙ top-of block.result.items c.index_mut.result.now block.ensures.one c.index_mut.ensures.value in
    let one = set-top block.result.items c.poll-answer.new.self block.ensures.one in
    let taken = block.ensures.rest in
    let fresh = c.requires.fresh in (
      false,
      rw (c.answer.ensures, one)
          (visit-cut p c.args.self.now c.take_state-block.new.self c.poll-answer.new.world c.args.task c.index_mut.result.now c.poll-answer.new.self taken there fresh.calls c.poll-answer.ensures.kept c.facts.ensures.calls c.facts.ensures.state
          (inl (rw c.new-cx.ensures at (polled-short c.take_state-block.new.self c.poll-answer.new.world _ _ _ (rw taken fresh.turns) (rw taken fresh.lacked) (sym c.if-is_short.ensures) c.poll-answer.ensures.steps))) f),
    )

pub returns-in-NoMemory-clause-agrees : goal.returns-in-NoMemory-clause-agrees
returns-in-NoMemory-clause-agrees g c first f =
    let p : Steps g.row.T.Denot g.row.T-Output.Denot = with_first g.T.Task.steps first in
    let block = c.take_state-block in
    let there : find c.args.task c.args.self.now.held.tasks ≡ Some c.index_mut.result.now = block.ensures.state ∙ top-of block.result.items c.index_mut.result.now block.ensures.one c.index_mut.ensures.value in
    let one = set-top block.result.items c.poll-answer.new.self block.ensures.one in
    let taken = block.ensures.rest in
    let fresh = c.requires.fresh in (
      false,
      rw (c.answer-in-NoMemory.ensures, one)
          (visit-cut p c.args.self.now c.take_state-block.new.self c.poll-answer.new.world c.args.task c.index_mut.result.now c.poll-answer.new.self taken there fresh.calls c.poll-answer.ensures.kept c.facts.ensures.calls c.facts.ensures.state
          (inr (rw c.new-cx.ensures at (polled-broken c.take_state-block.new.self c.poll-answer.new.world _ _ _ (rw taken fresh.turns) (long c.if-is_short.ensures) refl c.in-NoMemory.ensures.steps))) f),
    )

pub returns-then-flagged-clause-agrees : goal.returns-then-flagged-clause-agrees
returns-then-flagged-clause-agrees g c first f =
    let p : Steps g.row.T.Denot g.row.T-Output.Denot = with_first g.T.Task.steps first in
    let block = c.take_state-block in
    let there : find c.args.task c.args.self.now.held.tasks ≡ Some c.index_mut.result.now = block.ensures.state ∙ top-of block.result.items c.index_mut.result.now block.ensures.one c.index_mut.ensures.value in
    let one = set-top block.result.items c.poll-answer.new.self block.ensures.one in
    let taken = block.ensures.rest in
    let fresh = c.requires.fresh in
    rw (c.answer-in-Pending.ensures, one) (visit-pending p c.args.self.now c.take_state-block.new.self c.poll-answer.new.world c.args.task c.index_mut.result.now c.poll-answer.new.self taken there fresh.calls c.poll-answer.ensures.kept c.facts.ensures.calls c.facts.ensures.state
    (rw c.new-cx.ensures at (polled-fresh c.take_state-block.new.self c.poll-answer.new.world _ _ _ (rw taken fresh.turns) (long c.if-is_short.ensures) refl c.in-Pending.ensures.steps)) f)

pub returns-else-flagged-clause-agrees : goal.returns-else-flagged-clause-agrees
returns-else-flagged-clause-agrees g c first f =
    let p : Steps g.row.T.Denot g.row.T-Output.Denot = with_first g.T.Task.steps first in
    let block = c.take_state-block in
    let there : find c.args.task c.args.self.now.held.tasks ≡ Some c.index_mut.result.now = block.ensures.state ∙ top-of block.result.items c.index_mut.result.now block.ensures.one c.index_mut.ensures.value in
    let one = set-top block.result.items c.poll-answer.new.self block.ensures.one in
    let taken = block.ensures.rest in
    let fresh = c.requires.fresh in
    rw (c.answer-in-Pending.ensures, one) (visit-pending p c.args.self.now c.take_state-block.new.self c.poll-answer.new.world c.args.task c.index_mut.result.now c.poll-answer.new.self taken there fresh.calls c.poll-answer.ensures.kept c.facts.ensures.calls c.facts.ensures.state
    (rw c.new-cx.ensures at (polled-fresh c.take_state-block.new.self c.poll-answer.new.world _ _ _ (rw taken fresh.turns) (long c.if-is_short.ensures) refl c.in-Pending.ensures.steps)) f)

pub returns-then-is_root-clause-agrees : goal.returns-then-is_root-clause-agrees
returns-then-is_root-clause-agrees g c first f =
    let p : Steps g.row.T.Denot g.row.T-Output.Denot = with_first g.T.Task.steps first in
    let block = c.take_state-block in
    let there : find c.args.task c.args.self.now.held.tasks ≡ Some c.index_mut.result.now = block.ensures.state ∙ top-of block.result.items c.index_mut.result.now block.ensures.one c.index_mut.ensures.value in
    let one = set-top block.result.items c.poll-answer.new.self block.ensures.one in
    let taken = block.ensures.rest in
    let fresh = c.requires.fresh in
    let root : is_some_number c.args.task c.poll-answer.new.world.told.state.root ≡ true = sym c.if-is_root.ensures in
    rw (c.answer_root.ensures, one) (rw root at (visit-ready p c.args.self.now c.take_state-block.new.self c.poll-answer.new.world c.args.task c.index_mut.result.now c.poll-answer.new.self taken there fresh.calls c.poll-answer.ensures.kept c.facts.ensures.calls c.facts.ensures.state c.in-Ready.output
    (rw c.new-cx.ensures at (polled-fresh c.take_state-block.new.self c.poll-answer.new.world _ _ _ (rw taken fresh.turns) (long c.if-is_short.ensures) refl c.in-Ready.ensures.steps)) f))

pub returns-else-is_root-clause-agrees : goal.returns-else-is_root-clause-agrees
returns-else-is_root-clause-agrees g c first f =
    let p : Steps g.row.T.Denot g.row.T-Output.Denot = with_first g.T.Task.steps first in
    let block = c.take_state-block in
    let there : find c.args.task c.args.self.now.held.tasks ≡ Some c.index_mut.result.now = block.ensures.state ∙ top-of block.result.items c.index_mut.result.now block.ensures.one c.index_mut.ensures.value in
    let one = set-top block.result.items c.poll-answer.new.self block.ensures.one in
    let taken = block.ensures.rest in
    let fresh = c.requires.fresh in
    let root : is_some_number c.args.task c.poll-answer.new.world.told.state.root ≡ false = sym c.if-is_root.ensures in
    rw (c.answer_result.ensures, one) (rw root at (visit-ready p c.args.self.now c.take_state-block.new.self c.poll-answer.new.world c.args.task c.index_mut.result.now c.poll-answer.new.self taken there fresh.calls c.poll-answer.ensures.kept c.facts.ensures.calls c.facts.ensures.state c.in-Ready.output
    (rw c.new-cx.ensures at (polled-fresh c.take_state-block.new.self c.poll-answer.new.world _ _ _ (rw taken fresh.turns) (long c.if-is_short.ensures) refl c.in-Ready.ensures.steps)) f))

pub returns-then-root-clause-agrees : goal.returns-then-root-clause-agrees
returns-then-root-clause-agrees g c first f =
    let p : Steps g.row.T.Denot g.row.T-Output.Denot = with_first g.T.Task.steps first in
    let block = c.take_state-block in
    let there : find c.args.task c.args.self.now.held.tasks ≡ Some c.index_mut.result.now = block.ensures.state ∙ top-of block.result.items c.index_mut.result.now block.ensures.one c.index_mut.ensures.value in
    let one = set-top block.result.items c.poll-answer.new.self block.ensures.one in
    let taken = block.ensures.rest in
    let fresh = c.requires.fresh in
    rw (c.answer_panicked.ensures, one) (visit-panicked p c.args.self.now c.take_state-block.new.self c.poll-answer.new.world c.args.task c.index_mut.result.now c.poll-answer.new.self taken there fresh.calls c.poll-answer.ensures.kept c.facts.ensures.calls c.facts.ensures.state c.in-Panicked.text
    (rw c.new-cx.ensures at (polled-fresh c.take_state-block.new.self c.poll-answer.new.world _ _ _ (rw taken fresh.turns) (long c.if-is_short.ensures) refl c.in-Panicked.ensures.steps)) f)

pub returns-else-root-clause-agrees : goal.returns-else-root-clause-agrees
returns-else-root-clause-agrees g c first f =
    let p : Steps g.row.T.Denot g.row.T-Output.Denot = with_first g.T.Task.steps first in
    let block = c.take_state-block in
    let there : find c.args.task c.args.self.now.held.tasks ≡ Some c.index_mut.result.now = block.ensures.state ∙ top-of block.result.items c.index_mut.result.now block.ensures.one c.index_mut.ensures.value in
    let one = set-top block.result.items c.poll-answer.new.self block.ensures.one in
    let taken = block.ensures.rest in
    let fresh = c.requires.fresh in
    rw (c.answer_panicked.ensures, one) (visit-panicked p c.args.self.now c.take_state-block.new.self c.poll-answer.new.world c.args.task c.index_mut.result.now c.poll-answer.new.self taken there fresh.calls c.poll-answer.ensures.kept c.facts.ensures.calls c.facts.ensures.state c.in-Panicked.text
    (rw c.new-cx.ensures at (polled-fresh c.take_state-block.new.self c.poll-answer.new.world _ _ _ (rw taken fresh.turns) (long c.if-is_short.ensures) refl c.in-Panicked.ensures.steps)) f)

pub returns-then-is_short-clause-passes : goal.returns-then-is_short-clause-passes
returns-then-is_short-clause-passes g c =
    passes-answered g.G.Rng.stream c.args.self.now c.take_state-block.new.self c.poll-answer.new.world c.args.task c.requires.fresh.calls c.take_state-block.ensures.rest c.poll-answer.ensures.kept c.answer.new.self _ _ _ c.answer.ensures

pub returns-then-flagged-clause-passes : goal.returns-then-flagged-clause-passes
returns-then-flagged-clause-passes g c =
    passes-answered g.G.Rng.stream c.args.self.now c.take_state-block.new.self c.poll-answer.new.world c.args.task c.requires.fresh.calls c.take_state-block.ensures.rest c.poll-answer.ensures.kept c.answer-in-Pending.new.self _ _ _ c.answer-in-Pending.ensures

pub returns-else-flagged-clause-passes : goal.returns-else-flagged-clause-passes
returns-else-flagged-clause-passes g c =
    passes-answered g.G.Rng.stream c.args.self.now c.take_state-block.new.self c.poll-answer.new.world c.args.task c.requires.fresh.calls c.take_state-block.ensures.rest c.poll-answer.ensures.kept c.answer-in-Pending.new.self _ _ _ c.answer-in-Pending.ensures

pub returns-then-is_root-clause-passes : goal.returns-then-is_root-clause-passes
returns-then-is_root-clause-passes g c =
    passes-answered g.G.Rng.stream c.args.self.now c.take_state-block.new.self c.poll-answer.new.world c.args.task c.requires.fresh.calls c.take_state-block.ensures.rest c.poll-answer.ensures.kept c.answer_root.new.self _ _ _ c.answer_root.ensures

pub returns-else-is_root-clause-passes : goal.returns-else-is_root-clause-passes
returns-else-is_root-clause-passes g c =
    passes-answered g.G.Rng.stream c.args.self.now c.take_state-block.new.self c.poll-answer.new.world c.args.task c.requires.fresh.calls c.take_state-block.ensures.rest c.poll-answer.ensures.kept c.answer_result.new.self _ _ _ c.answer_result.ensures

pub returns-then-root-clause-passes : goal.returns-then-root-clause-passes
returns-then-root-clause-passes g c =
    passes-answered g.G.Rng.stream c.args.self.now c.take_state-block.new.self c.poll-answer.new.world c.args.task c.requires.fresh.calls c.take_state-block.ensures.rest c.poll-answer.ensures.kept c.answer_panicked.new.self _ _ _ c.answer_panicked.ensures

pub returns-else-root-clause-passes : goal.returns-else-root-clause-passes
returns-else-root-clause-passes g c =
    passes-answered g.G.Rng.stream c.args.self.now c.take_state-block.new.self c.poll-answer.new.world c.args.task c.requires.fresh.calls c.take_state-block.ensures.rest c.poll-answer.ensures.kept c.answer_panicked.new.self _ _ _ c.answer_panicked.ensures

pub returns-in-NoMemory-clause-passes : goal.returns-in-NoMemory-clause-passes
returns-in-NoMemory-clause-passes g c =
    passes-answered g.G.Rng.stream c.args.self.now c.take_state-block.new.self c.poll-answer.new.world c.args.task c.requires.fresh.calls c.take_state-block.ensures.rest c.poll-answer.ensures.kept c.answer-in-NoMemory.new.self _ _ _ c.answer-in-NoMemory.ensures
