use Rattle.rt_scripts.proofs.Prelude.{rules, ◌≡◌, ◌++◌, ap, ◌∙◌, append_assoc, string_bytes, report_text, entries_text, result_text, numbers_text}
use Rattle.rt_scripts.proofs.Written.{written_whole, part_of, part_longer, part_behind, on_err, report_parts}
use Rattle.rt_scripts.proofs.report.write_report.Goals as goal

pub returns-in_err-write_entries-clause-part : goal.returns-in_err-write_entries-clause-part
returns-in_err-write_entries-clause-part g c =
    let run = c.args.run.now in
    let entries = c.args.entries.now in
    let first = string_bytes c.write.new.self in
    let held = g.K.Sink8.held in
    on_err _ _ (part_longer (held c.args.sink.now) (held c.write_entries.new.sink) (first ++ entries_text entries) (result_text run.result ++ numbers_text run) (report_text run entries) (report_parts run entries first (search rules)) c.in_err-write_entries.ensures.part)

pub returns-in_err-add_result-clause-part : goal.returns-in_err-add_result-clause-part
returns-in_err-add_result-clause-part g c =
    let run = c.args.run.now in
    let entries = c.args.entries.now in
    let first = string_bytes c.write.new.self in
    let held = g.K.Sink8.held in
    on_err _ _ (part_longer (held c.args.sink.now) (held c.write_entries.new.sink) (first ++ entries_text entries) (result_text run.result ++ numbers_text run) (report_text run entries) (report_parts run entries first (search rules)) (string_bytes c.write_entries.new.buffer, c.in_ok-write_entries.ensures.written))

pub returns-in_err-add_numbers-clause-part : goal.returns-in_err-add_numbers-clause-part
returns-in_err-add_numbers-clause-part g c =
    let run = c.args.run.now in
    let entries = c.args.entries.now in
    let first = string_bytes c.write.new.self in
    let held = g.K.Sink8.held in
    on_err _ _ (part_longer (held c.args.sink.now) (held c.write_entries.new.sink) (first ++ entries_text entries) (result_text run.result ++ numbers_text run) (report_text run entries) (report_parts run entries first (search rules)) (string_bytes c.write_entries.new.buffer, c.in_ok-write_entries.ensures.written))

pub returns-in_err-write_whole-clause-part : goal.returns-in_err-write_whole-clause-part
returns-in_err-write_whole-clause-part g c =
    let run = c.args.run.now in
    let entries = c.args.entries.now in
    let first = string_bytes c.write.new.self in
    let buffer = string_bytes c.write_entries.new.buffer in
    let more = result_text run.result ++ numbers_text run in
    let held = g.K.Sink8.held in
    let rest : c.as_bytes.result.now ≡ buffer ++ more = c.as_bytes.ensures.value ∙ c.in_ok-add_numbers.ensures ∙ ap (λ l. l ++ numbers_text run) c.in_ok-add_result.ensures ∙ append_assoc buffer (result_text run.result) (numbers_text run) in
    on_err _ _ (part_behind (held c.args.sink.now) (held c.write_entries.new.sink) (held c.write_whole.new.sink) (first ++ entries_text entries) buffer more (report_text run entries) (report_parts run entries first (search rules)) c.in_ok-write_entries.ensures.written
    (part_of (held c.write_entries.new.sink) (held c.write_whole.new.sink) c.as_bytes.result.now (buffer ++ more) rest c.in_err-write_whole.ensures.part))

pub returns-clause-whole : goal.returns-clause-whole
returns-clause-whole g c =
    let run = c.args.run.now in
    let entries = c.args.entries.now in
    let first = string_bytes c.write.new.self in
    let buffer = string_bytes c.write_entries.new.buffer in
    let more = result_text run.result ++ numbers_text run in
    let held = g.K.Sink8.held in
    let rest : c.as_bytes.result.now ≡ buffer ++ more = c.as_bytes.ensures.value ∙ c.in_ok-add_numbers.ensures ∙ ap (λ l. l ++ numbers_text run) c.in_ok-add_result.ensures ∙ append_assoc buffer (result_text run.result) (numbers_text run) in
    written_whole (held c.args.sink.now) (held c.write_entries.new.sink) (held c.write_whole.new.sink) (first ++ entries_text entries) buffer more c.as_bytes.result.now (report_text run entries) c.in_ok-write_entries.ensures.written c.in_ok-write_whole.ensures.whole rest (report_parts run entries first (search rules))
