use Rattle.rt_store.proofs.Prelude.{ℕ, TakesFields, names_fields}
use Rattle.rt_store.proofs.Named.{shown}
use Rattle.rt_store.proofs.auditing.audit_names.Given as goal

abbrev pub invariant-loop-name : goal.invariant-loop-name
invariant-loop-name l =
    (new : ℕ) → TakesFields (names_fields l.files l.partition (shown l.name-iterator)) l.hasher new
    → TakesFields (names_fields l.fn.files l.fn.partition l.fn.names) l.fn.hasher new
