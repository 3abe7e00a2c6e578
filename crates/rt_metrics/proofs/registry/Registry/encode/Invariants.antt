use Rattle.rt_metrics.proofs.Prelude.{◌≡◌, ◌++◌, string_bytes, families_text}
use Rattle.rt_metrics.proofs.registry.Registry.encode.Given as goal

abbrev pub invariant-loop-name : goal.invariant-loop-name
invariant-loop-name l = string_bytes l.text ++ families_text l.fn.self l.name-iterator ≡ families_text l.fn.self l.fn.self.families
