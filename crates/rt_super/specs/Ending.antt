-- The walk of an end.
use Rattle.std.specs.Prelude.{ℕ, Bool, not, List, filter, filter_map, Option, slice_get, option_and_then}
use Rattle.rt_super.specs.Inside.{is_marked}
use Rattle.rt_super.specs.declared.node.Node.{Node}

-- the task on the node at a place
abbrev pub task_at : List Node → ℕ → Option ℕ
task_at nodes n = option_and_then (λ x. x.task) (slice_get nodes n)

-- the tasks on those of the nodes that aren't marked
abbrev pub fresh_tasks : List Node → List Bool → List ℕ → List ℕ
fresh_tasks nodes ended places = filter_map (task_at nodes) (filter (λ n. not (is_marked ended n)) places)
