use Rattle.rt_core.proofs.Prelude.{rules, ◌≡◌, ◌++◌, ◌∙◌, ap, refl, inl, List, [], Entry, begun, after, with_first, Steps, own, World}
use Rattle.rt_core.proofs.Outcomes.{completes, gave-all, facts_of, failed_by, has_text, only_memory}
use Rattle.rt_core.proofs.runner.Runner.start_and_recover.Goals as goal

pub run_maker-outcome-requires-clause-root : goal.run_maker-outcome-requires-clause-root
unfolding after begun
run_maker-outcome-requires-clause-root g c = rw c.in-Ok.ensures.ok refl

pub returns-in-Ok-outcome-clause-run : goal.returns-in-Ok-outcome-clause-run
unfolding after begun
returns-in-Ok-outcome-clause-run g c =
    let p : Steps g.row.T.Denot g.row.T-Output.Denot = with_first g.T.Task.steps (g.M.RootMaker.first c.args.maker) in
    let w : World g.row.T.Denot g.row.T-Output.Denot g.row.G.Denot = c.run_maker-outcome.new.world in
    let begin : w.told.begin ≡ c.self.inside.begin = c.run_maker-outcome.ensures.leaves.begin ∙ ap (λ (u : World g.row.T.Denot g.row.T-Output.Denot g.row.G.Denot). u.told.begin) c.in-Ok.ensures.ok in
    let fixed : w.told.state.clock.fixed ≡ c.self.inside.begin = c.run_maker-outcome.ensures.leaves.fixed ∙ ap (λ (u : World g.row.T.Denot g.row.T-Output.Denot g.row.G.Denot). u.told.state.clock.fixed) c.in-Ok.ensures.ok in
    let given = c.run_maker-outcome.ensures.leaves.given ∙ ap (λ (u : World g.row.T.Denot g.row.T-Output.Denot g.row.G.Denot). u.told.given) c.in-Ok.ensures.ok ∙ c.given_journal-given.ensures in
    let began = c.in-Ok.ensures.ok in
    let draws = gave-all g.G.Rng.stream _ w c.run_maker-outcome.ensures.leaves.drew (rw began refl) in
    let extends = c.into_parts-journal.ensures.entries ∙ ap (λ (ys : List Entry). ys ++ own w.told) given in
    rw (← c.self.view_is, c.into_parts-journal.ensures.rng)
    (completes p c.self.inside.begin w (rw begin at c.facts.ensures.lawful) (rw begin at c.facts.ensures.state) begin g.G.Rng.stream _ _ _ _ c.in-Ok-outcome.output _ _ _ _ c.in-Ok-outcome.ensures.leaves.phase (c.in-Ok-outcome.ensures.agrees (c.in-Ok.ensures.agrees p)) extends c.now-time.ensures.time fixed (facts_of _ w g.G.Rng.stream begin given c.facts.ensures.drawn c.facts.ensures.state (rw began at draws) c.facts.ensures.digested) refl refl refl)

pub returns-in-Err-outcome-clause-failure : goal.returns-in-Err-outcome-clause-failure
unfolding after begun
returns-in-Err-outcome-clause-failure g c =
    let p : Steps g.row.T.Denot g.row.T-Output.Denot = with_first g.T.Task.steps (g.M.RootMaker.first c.args.maker) in
    let w : World g.row.T.Denot g.row.T-Output.Denot g.row.G.Denot = c.run_maker-outcome.new.world in
    let begin : w.told.begin ≡ c.self.inside.begin = c.run_maker-outcome.ensures.leaves.begin ∙ ap (λ (u : World g.row.T.Denot g.row.T-Output.Denot g.row.G.Denot). u.told.begin) c.in-Ok.ensures.ok in
    let given = c.run_maker-outcome.ensures.leaves.given ∙ ap (λ (u : World g.row.T.Denot g.row.T-Output.Denot g.row.G.Denot). u.told.given) c.in-Ok.ensures.ok ∙ c.given_journal-given.ensures in
    let began = c.in-Ok.ensures.ok in
    let draws = rw began at (gave-all g.G.Rng.stream _ w c.run_maker-outcome.ensures.leaves.drew (rw began refl)) in
    rw (← c.self.view_is) (record {
      entries = own w.told;
      left = g.G.Rng.stream w.rng;
      extends = c.into_parts-journal.ensures.entries ∙ ap (λ (ys : List Entry). ys ++ own w.told) given;
      failed = failed_by p c.self.inside.begin w (rw begin at c.facts.ensures.lawful) (rw begin at c.facts.ensures.state) begin c.error_of.result c.in-Err-outcome.cause c.error_of.ensures.cause (rw c.into_parts-journal.ensures.panic at c.error_of.ensures.text) c.in-Err-outcome.ensures.leaves.phase (c.in-Err-outcome.ensures.agrees (c.in-Ok.ensures.agrees p));
      facts = facts_of _ w g.G.Rng.stream begin given c.facts.ensures.drawn c.facts.ensures.state draws c.facts.ensures.digested;
    })

pub returns-in-Err-outcome-clause-complete : goal.returns-in-Err-outcome-clause-complete
returns-in-Err-outcome-clause-complete g c v =
    let p : Steps g.row.T.Denot g.row.T-Output.Denot = with_first g.T.Task.steps (g.M.RootMaker.first c.args.maker) in
    let f = returns-in-Err-outcome-clause-failure g c in
    only_memory g.G.Rng.stream p c.args.self f.entries f.left v f.facts c.error_of.result f.failed

pub error_of-requires-clause-text : goal.error_of-requires-clause-text
unfolding after begun
error_of-requires-clause-text g c panicked =
    let p : Steps g.row.T.Denot g.row.T-Output.Denot = with_first g.T.Task.steps (g.M.RootMaker.first c.args.maker) in
    let w : World g.row.T.Denot g.row.T-Output.Denot g.row.G.Denot = c.run_maker-outcome.new.world in
    let begin : w.told.begin ≡ c.self.inside.begin = c.run_maker-outcome.ensures.leaves.begin ∙ ap (λ (u : World g.row.T.Denot g.row.T-Output.Denot g.row.G.Denot). u.told.begin) c.in-Ok.ensures.ok in
    rw c.into_parts-journal.ensures.panic
    (has_text p c.self.inside.begin w (rw begin at c.facts.ensures.lawful) (rw begin at c.facts.ensures.state) begin c.in-Err-outcome.cause c.in-Err-outcome.ensures.leaves.phase (c.in-Err-outcome.ensures.agrees (c.in-Ok.ensures.agrees p)) panicked)

pub returns-in-Err-clause-failure : goal.returns-in-Err-clause-failure
unfolding begun
returns-in-Err-clause-failure g c = record {
  entries = [];
  left = g.G.Rng.stream c.args.self.rng;
  extends = search rules;
  failed = inl refl;
  facts = record { drawn = tt; draws = refl; digested = tt };
}
