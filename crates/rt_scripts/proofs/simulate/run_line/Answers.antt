use Rattle.rt_scripts.proofs.Prelude.{rules, ◌∙◌, [], sym, append-nil}
use Rattle.rt_scripts.proofs.Runs.{nothing-run, comes-whole, comes-failed, halts-at}
use Rattle.rt_scripts.proofs.simulate.run_line.Goals as goal

pub returns-in_default : goal.returns-in_default
returns-in_default c =
    ([], c.into_journal.ensures ∙ sym (append-nil c.args.runner.given), nothing-run c.args.program.now c.args.line.now c.args.runner c.requires.line.0)

pub returns-in-Ok-start_and_recover : goal.returns-in-Ok-start_and_recover
returns-in-Ok-start_and_recover c =
    let finished = c.in-Ok-start_and_recover.finished in
    comes-whole c.args.program.now c.args.line.now c.args.runner c.requires.line.0 c.in-Ok.maker c.report_of-run.result finished.output finished.checkpoint c.args.place
    c.in-Ok.ensures.1 c.in-Ok-start_and_recover.ensures.run c.requires.place (search rules)

pub returns-then-eq : goal.returns-then-eq
returns-then-eq c =
    let failure = c.in-Err.failure in
    halts-at c.args.program.now c.args.line.now c.args.runner c.requires.line.0 c.in-Ok.maker failure.journal failure.cause
    c.in-Ok.ensures.1 (search rules) c.in-Err.ensures.failure

pub returns-else-eq : goal.returns-else-eq
returns-else-eq c =
    let failure = c.in-Err.failure in
    comes-failed c.args.program.now c.args.line.now c.args.runner c.requires.line.0 c.in-Ok.maker c.report_of-run-in-Err.result failure.journal failure.cause c.args.place
    c.in-Ok.ensures.1 (search rules) c.in-Err.ensures.failure c.requires.place (search rules)
