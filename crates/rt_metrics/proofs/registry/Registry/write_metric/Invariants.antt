use Rattle.rt_metrics.proofs.Prelude.{◌≡◌, ◌++◌, string_bytes, children_lines, sample_name}
use Rattle.rt_metrics.proofs.registry.Registry.write_metric.Given as goal

abbrev pub invariant-loop-labels : goal.invariant-loop-labels
invariant-loop-labels l =
    string_bytes l.text ++ children_lines l.fn.self (sample_name l.fn.name l.fn.kind) l.attributes l.labels-iterator
    ≡ string_bytes l.initial.text ++ children_lines l.fn.self (sample_name l.fn.name l.fn.kind) l.attributes l.initial.labels-iterator
