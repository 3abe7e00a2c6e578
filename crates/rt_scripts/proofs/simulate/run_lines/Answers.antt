use Rattle.rt_scripts.proofs.Prelude.{rules, subst, nil_from_length, All-rest, HasScripts}
use Rattle.rt_scripts.proofs.Runs.{GoesFrom, goes-on, goes-whole, goes-failed, goes-halted, next-place}
use Rattle.rt_scripts.proofs.simulate.run_lines.Goals as goal

pub loop-line-preserved : goal.loop-line-preserved
loop-line-preserved c =
    let i = c.loop-line.invariant in
    let scripts = c.args.program.now in
    let from = c.loop-line.runner in
    let line = c.in-Some.line.now in
    let tail = c.in-Some.tail.now in
    let is = c.in-Some.ensures.cases.0 in
    let run = c.in-Completed.run' in
    let kept = c.in-Completed.checkpoint in
    let own = c.in-Completed.ensures.0 in
    let next = c.from-runner.result in
    let goes = subst (λ rest. GoesFrom scripts c.args.first c.args.lines.now from rest c.loop-line.runs.items from.given) is i.goes in
    record {
      place = next-place scripts next from line own run kept c.from-runner.ensures c.in-Completed.ensures.1 c.in-Completed.ensures.2;
      rounds = search rules;
      goes = goes-on scripts c.args.first c.args.lines.now next from line tail c.loop-line.runs.items c.push_reserved.new.self.items own run kept c.from-runner.ensures c.push_reserved.ensures.items c.in-Completed.ensures.1 c.in-Completed.ensures.2 goes;
      places = (search rules);
      lines = All-rest (HasScripts scripts) line tail c.loop-line.rest.now is i.lines;
    }

pub returns-in-Failed : goal.returns-in-Failed
returns-in-Failed c =
    let scripts = c.args.program.now in
    let from = c.loop-line.runner in
    let line = c.in-Some.line.now in
    let tail = c.in-Some.tail.now in
    let goes = subst (λ rest. GoesFrom scripts c.args.first c.args.lines.now from rest c.loop-line.runs.items from.given) c.in-Some.ensures.cases.0 c.loop-line.invariant.goes in
    rw (c.push_reserved-in-Failed.ensures.items, c.in-Failed.ensures.1)
    (goes-failed scripts c.args.first c.args.lines.now from line tail c.loop-line.runs.items from.given c.in-Failed.ensures.0 c.in-Failed.run' c.in-Failed.ensures.2 goes)

pub returns-in-Lacked : goal.returns-in-Lacked
returns-in-Lacked c =
    let scripts = c.args.program.now in
    let from = c.loop-line.runner in
    let line = c.in-Some.line.now in
    let tail = c.in-Some.tail.now in
    let goes = subst (λ rest. GoesFrom scripts c.args.first c.args.lines.now from rest c.loop-line.runs.items from.given) c.in-Some.ensures.cases.0 c.loop-line.invariant.goes in
    rw (c.in-Lacked.ensures.1)
    (goes-halted scripts c.args.first c.args.lines.now from line tail c.loop-line.runs.items from.given c.in-Lacked.ensures.0 c.in-Lacked.ensures.2 goes)

pub returns : goal.returns
returns c =
    let scripts = c.args.program.now in
    let from = c.loop-line.runner in
    let goes = subst (λ rest. GoesFrom scripts c.args.first c.args.lines.now from rest c.loop-line.runs.items from.given) (nil_from_length c.loop-line.rest.now c.in_default.ensures.cases) c.loop-line.invariant.goes in
    rw (c.into_journal.ensures)
    (goes-whole scripts c.args.first c.args.lines.now from c.loop-line.runs.items from.given goes)
