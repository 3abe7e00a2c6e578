use Rattle.rt_metrics.proofs.Prelude.{◌≡◌, ◌++◌, string_bytes, escaped}
use Rattle.rt_metrics.proofs.writing.write_escaped.Given as goal

abbrev pub invariant-loop-c : goal.invariant-loop-c
invariant-loop-c l = string_bytes l.text ++ escaped l.c-iterator.rest.now ≡ string_bytes l.fn.text ++ escaped l.fn.value
