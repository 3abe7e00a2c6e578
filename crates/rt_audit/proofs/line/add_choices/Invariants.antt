use Rattle.std.proofs.Common.{◌≡◌, ◌++◌, drop, string_bytes}
use Rattle.rt_audit.specs.Lines.{choices_text}
use Rattle.rt_audit.proofs.line.add_choices.Given as goal

abbrev pub invariant-loop-choice : goal.invariant-loop-choice
invariant-loop-choice l = string_bytes l.text ++ choices_text (drop l.choice-index l.choices) ≡ string_bytes l.fn.text ++ choices_text l.choices
