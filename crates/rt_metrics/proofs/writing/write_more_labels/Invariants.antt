use Rattle.rt_metrics.proofs.Prelude.{◌≡◌, ◌++◌, string_bytes, length, more_labels}
use Rattle.rt_metrics.proofs.writing.write_more_labels.Given as goal

abbrev pub invariant-loop-label : goal.invariant-loop-label
invariant-loop-label l = string_bytes l.text ++ more_labels l.rest ≡ string_bytes l.fn.text ++ more_labels l.fn.labels

abbrev pub decreases-loop-label : goal.decreases-loop-label
decreases-loop-label l = length l.rest
