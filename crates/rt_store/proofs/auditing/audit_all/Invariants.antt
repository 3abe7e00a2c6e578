use Rattle.rt_store.proofs.Prelude.{ℕ, TakesFields, partitions_fields}
use Rattle.rt_store.proofs.Named.{shown}
use Rattle.rt_store.proofs.auditing.audit_all.Given as goal

abbrev pub invariant-loop-partition : goal.invariant-loop-partition
invariant-loop-partition l =
    (new : ℕ) → TakesFields (partitions_fields l.files l.directory.shelves (shown l.partition-iterator)) l.hasher new
    → TakesFields (partitions_fields l.fn.files l.fn.directory.shelves l.fn.directory.shelf) l.fn.hasher new
