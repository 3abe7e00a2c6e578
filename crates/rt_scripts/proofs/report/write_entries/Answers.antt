use Rattle.rt_scripts.proofs.Prelude.{rules, ap, arith, suc, slice_index_or, ◌∙◌, ◌≡◌, ◌++◌, ◌+◌, ◌∷◌, codes, drop, string_bytes, refl, drop-cons, line_of, entries_text}
use Rattle.rt_scripts.proofs.Written.{written_more, next_line, part_behind, part_longer, on_err}
use Rattle.rt_scripts.proofs.report.write_entries.Goals as goal

pub loop-entry-preserved : goal.loop-entry-preserved
loop-entry-preserved g c =
    let kept = c.loop-entry.invariant in
    let entry = c.entry-item.result in
    let entries = c.args.entries.now in
    let place = c.loop-entry.entry-index in
    let line = line_of entry ++ codes "\n" in
    let held = g.K.Sink8.held in
    let step : suc place ≡ place + 1 = omega arith in
    let next : drop place entries ≡ entry ∷ drop (place + 1) entries = drop-cons entries place entry (search rules) ∙ ap (λ n. slice_index_or entries place entry ∷ drop n entries) step ∙ ap (λ e. e ∷ drop (place + 1) entries) (search rules) in
    (kept.0 ++ line, written_more (held c.args.sink.now) (held c.loop-entry.sink) (held c.write_entry.new.sink) kept.0 (string_bytes c.loop-entry.buffer) line (string_bytes c.write_entry.new.buffer) kept.1 c.in_ok-write_entry.ensures.written, next_line (drop place entries) (drop (place + 1) entries) entry kept.0 (string_bytes c.args.buffer.now ++ entries_text entries) next kept.2, search rules)

pub returns-in_err-write_entry-clause-part : goal.returns-in_err-write_entry-clause-part
returns-in_err-write_entry-clause-part g c =
    let kept = c.loop-entry.invariant in
    let entry = c.entry-item.result in
    let entries = c.args.entries.now in
    let place = c.loop-entry.entry-index in
    let line = line_of entry ++ codes "\n" in
    let rest = entries_text (drop (place + 1) entries) in
    let whole = string_bytes c.args.buffer.now ++ entries_text entries in
    let held = g.K.Sink8.held in
    let step : suc place ≡ place + 1 = omega arith in
    let next : drop place entries ≡ entry ∷ drop (place + 1) entries = drop-cons entries place entry (search rules) ∙ ap (λ n. slice_index_or entries place entry ∷ drop n entries) step ∙ ap (λ e. e ∷ drop (place + 1) entries) (search rules) in
    on_err _ _ (part_longer (held c.args.sink.now) (held c.write_entry.new.sink) (kept.0 ++ line) rest whole
    (next_line (drop place entries) (drop (place + 1) entries) entry kept.0 whole next kept.2)
    (part_behind (held c.args.sink.now) (held c.loop-entry.sink) (held c.write_entry.new.sink) kept.0 (string_bytes c.loop-entry.buffer) line (kept.0 ++ line) refl kept.1 c.in_err-write_entry.ensures.part))
