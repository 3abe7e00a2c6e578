use Rattle.std.proofs.Common.{◌≡◌, ◌++◌, drop, string_bytes}
use Rattle.rt_audit.specs.Lines.{fields_text}
use Rattle.rt_audit.proofs.line.add_listed.Given as goal

abbrev pub invariant-loop-field : goal.invariant-loop-field
invariant-loop-field l = string_bytes l.text ++ fields_text (drop l.field-index l.fields) ≡ string_bytes l.fn.text ++ fields_text l.fields
