-- Where the result of a task is.
use Rattle.std.specs.Prelude.{◌≡◌, ℕ, Some}
use Rattle.rt_model.specs.declared.result.Outcome.TheVariants.{There}
use Rattle.rt_model.specs.declared.result.TaskResult.{TaskResult}
use Rattle.rt_model.specs.Lists.{find}
use Rattle.rt_model.specs.State.{State}

-- the output of this task is there, and nobody has taken it
abbrev pub IsStored : State → ℕ → Type 0
IsStored s task = (r : TaskResult) × (find task s.stood.results ≡ Some r) × (r.outcome ≡ There)
