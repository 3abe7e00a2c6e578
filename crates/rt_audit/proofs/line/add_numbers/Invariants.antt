use Rattle.std.proofs.Common.{◌≡◌, ◌++◌, drop, string_bytes}
use Rattle.rt_audit.specs.Lines.{numbers_text}
use Rattle.rt_audit.proofs.line.add_numbers.Given as goal

abbrev pub invariant-loop-number : goal.invariant-loop-number
invariant-loop-number l = string_bytes l.text ++ numbers_text (drop l.number-index l.numbers) ≡ string_bytes l.fn.text ++ numbers_text l.numbers
