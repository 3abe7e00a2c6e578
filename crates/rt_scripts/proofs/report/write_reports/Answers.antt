use Rattle.rt_scripts.proofs.Prelude.{◌≡◌, ◌++◌, [], length, refl, sym, ap, ◌∙◌, append_assoc, arith, slice_range, All-rest, appends_more, StandsIn, report_text, reports_text}
use Rattle.rt_scripts.proofs.Written.{on_err, part_behind, part_longer, written_out}
use Rattle.rt_scripts.proofs.report.write_reports.Goals as goal

pub loop-run-preserved : goal.loop-run-preserved
loop-run-preserved g c =
    let i = c.loop-run.invariant in
    let run = c.in-Some.run'.now in
    let tail = c.in-Some.tail.now in
    let entries = c.args.entries.now in
    let own = report_text run (slice_range entries run.from run.to) in
    let held = g.K.Sink8.held in
    let is = c.in-Some.ensures.cases.0 in
    let wrote = appends_more (held c.args.sink.now) (held c.loop-run.sink) (held c.write_report.new.sink) i.text own i.wrote c.in_ok-write_report.ensures.whole in
    record {
      text = i.text ++ own;
      wrote = wrote;
      rest = append_assoc i.text own (reports_text tail entries) ∙ ap (λ rs. i.text ++ reports_text rs entries) (sym is) ∙ i.rest;
      counted = omega (arith, i.counted, c.in_ok-write_report.ensures.counted);
      within = All-rest (StandsIn (length entries)) run tail c.loop-run.rest.now is i.within;
    }

pub returns-in_err-write_report-clause-part : goal.returns-in_err-write_report-clause-part
returns-in_err-write_report-clause-part g c =
    let i = c.loop-run.invariant in
    let run = c.in-Some.run'.now in
    let tail = c.in-Some.tail.now in
    let entries = c.args.entries.now in
    let own = report_text run (slice_range entries run.from run.to) in
    let held = g.K.Sink8.held in
    let whole : (i.text ++ own) ++ reports_text tail entries ≡ reports_text c.args.runs.now entries = append_assoc i.text own (reports_text tail entries) ∙ ap (λ rs. i.text ++ reports_text rs entries) (sym c.in-Some.ensures.cases.0) ∙ i.rest in
    on_err _ _ (part_longer (held c.args.sink.now) (held c.write_report.new.sink) (i.text ++ own) (reports_text tail entries) (reports_text c.args.runs.now entries) whole
    (part_behind (held c.args.sink.now) (held c.loop-run.sink) (held c.write_report.new.sink) i.text [] own (i.text ++ own) refl (written_out (held c.args.sink.now) (held c.loop-run.sink) i.text i.wrote) c.in_err-write_report.ensures.part))
