use Rattle.rt_scripts.proofs.Prelude.{◌≡◌, ◌++◌, [], codes, ap, ◌∙◌, append_assoc, string_bytes, line_of}
use Rattle.rt_scripts.proofs.Written.{appends_nothing, part_of, on_err}
use Rattle.rt_scripts.proofs.report.write_entry.Goals as goal

pub returns-else-len-ge-BUFFER-clause-written : goal.returns-else-len-ge-BUFFER-clause-written
returns-else-len-ge-BUFFER-clause-written g c = ([], appends_nothing (g.K.Sink8.held c.args.sink.now), c.in_ok-push_str.ensures.bytes ∙ ap (λ l. l ++ codes "\n") c.in_ok-add_to.ensures ∙ append_assoc (string_bytes c.args.buffer.now) (line_of c.args.entry.now) (codes "\n"))

pub returns-in_err-write_whole-clause-part : goal.returns-in_err-write_whole-clause-part
returns-in_err-write_whole-clause-part g c =
    let held = g.K.Sink8.held in
    let whole = string_bytes c.args.buffer.now ++ (line_of c.args.entry.now ++ codes "\n") in
    let is : c.as_bytes.result.now ≡ whole = c.as_bytes.ensures.value ∙ c.in_ok-push_str.ensures.bytes ∙ ap (λ l. l ++ codes "\n") c.in_ok-add_to.ensures ∙ append_assoc (string_bytes c.args.buffer.now) (line_of c.args.entry.now) (codes "\n") in
    on_err _ _ (part_of (held c.args.sink.now) (held c.write_whole.new.sink) c.as_bytes.result.now whole is c.in_err-write_whole.ensures.part)
