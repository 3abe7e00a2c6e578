use Rattle.rt_metrics.proofs.Prelude.{◌≡◌, ◌++◌, string_bytes, members_lines, sample_name}
use Rattle.rt_metrics.proofs.registry.Registry.write_family.Given as goal

abbrev pub invariant-loop-id : goal.invariant-loop-id
invariant-loop-id l =
    string_bytes l.text ++ members_lines l.fn.self (sample_name l.fn.name l.fn.family.kind) l.id-iterator
    ≡ string_bytes l.initial.text ++ members_lines l.fn.self (sample_name l.fn.name l.fn.family.kind) l.fn.family.members
