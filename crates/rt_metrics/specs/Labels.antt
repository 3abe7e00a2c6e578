-- The labels of statuses and of tasks: each is named as its variant.
use Rattle.std.specs.Prelude.{ℕ, List, [], ◌∷◌, codes, true, false}
use Rattle.std.specs.List.{fold}
use Rattle.std.specs.Option.{option_map_or}
use Rattle.rt_base.specs.declared.execution.Execution.{Execution as Asked}
use Rattle.rt_base.specs.declared.execution.Execution.TheVariants.{Dedicated as OwnThread, Shared as AmongOthers}
use Rattle.rt_metrics.specs.declared.kind.Kind.TheVariants.{Counter}
use Rattle.rt_metrics.specs.declared.status.Status.{Status}
use Rattle.rt_metrics.specs.declared.status.Status.TheVariants.{Ambiguous, Dropped, Failure, Invalid, Success, Timeout}
use Rattle.rt_metrics.specs.declared.task.Kind.{Kind}
use Rattle.rt_metrics.specs.declared.task.Kind.TheVariants.{Root, Task}
use Rattle.rt_metrics.specs.declared.task.Execution.{Execution}
use Rattle.rt_metrics.specs.declared.task.Execution.TheVariants.{Shared, SharedBlocking, Dedicated}
use Rattle.rt_metrics.specs.declared.task.Label.{Label}
use Rattle.rt_metrics.specs.MetricText.{labels_text}
use Rattle.rt_metrics.specs.Registry.{Pairs, RegistryState, child_of, with_child, counted}

abbrev pub kind_name : Kind → List ℕ
kind_name Root = codes "Root"
kind_name Task = codes "Task"

abbrev pub execution_name : Execution → List ℕ
execution_name Shared = codes "Shared"
execution_name SharedBlocking = codes "SharedBlocking"
execution_name Dedicated = codes "Dedicated"

abbrev pub execution_of : Asked → Execution
execution_of OwnThread = Dedicated
execution_of (AmongOthers true) = SharedBlocking
execution_of (AmongOthers false) = Shared

abbrev pub task_pairs : Label → Pairs
task_pairs l = (codes "name", l.name) ∷ (codes "kind", kind_name l.kind) ∷ (codes "execution", execution_name l.execution) ∷ []

abbrev pub status_name : Status → List ℕ
status_name Ambiguous = codes "Ambiguous"
status_name Dropped = codes "Dropped"
status_name Failure = codes "Failure"
status_name Invalid = codes "Invalid"
status_name Success = codes "Success"
status_name Timeout = codes "Timeout"

abbrev pub status_pairs : Status → Pairs
status_pairs status = (codes "status", status_name status) ∷ []

abbrev pub status_text : Status → List ℕ
status_text status = labels_text (status_pairs status)

-- the family with the child of this status
abbrev pub with_status : RegistryState → ℕ → Status → RegistryState
with_status r id status = with_child r id (status_text status) Counter

-- the child of a status rises by so much; a child that isn't there stays away
abbrev pub child_raised : RegistryState → ℕ → List ℕ → ℕ → RegistryState
child_raised r id labels n = option_map_or (λ child. counted r child n) (child_of r id labels) r

-- the same, and the child is made where it is missing
abbrev pub raised_status : RegistryState → ℕ → Status → ℕ → RegistryState
raised_status r id status n = child_raised (with_status r id status) id (status_text status) n

abbrev pub all_statuses : List Status
all_statuses = Ambiguous ∷ Dropped ∷ Failure ∷ Invalid ∷ Success ∷ Timeout ∷ []

-- the family with the children of these statuses
abbrev pub with_statuses : RegistryState → ℕ → List Status → RegistryState
with_statuses r id statuses = fold (λ made status. with_status made id status) r statuses
