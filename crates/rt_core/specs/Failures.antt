-- Why a run fails.
use Rattle.std.specs.Prelude.{ℕ, List, Option, Some, None}
use Rattle.rt_audit.specs.declared.finish.FinishCause.{FinishCause}
use Rattle.rt_audit.specs.declared.finish.FinishCause.TheVariants.{Timeout, Stalled, TaskPanicked, TimeOverflow, TooManyTasks, NoMemory}
use Rattle.rt_core.specs.declared.run_error.RunError.{RunError}
use Rattle.rt_core.specs.declared.run_error.RunError.TheVariants.{Timeout as IsTimeout, Stalled as IsStalled, TaskPanicked as HasPanicked, TimeOverflow as IsTimeOverflow, TooManyTasks as AreTooManyTasks, NoMemory as IsNoMemory}

-- the cause that the last entry keeps
abbrev pub finish_of : RunError → FinishCause
finish_of IsTimeout = Timeout
finish_of IsStalled = Stalled
finish_of (HasPanicked text) = TaskPanicked
finish_of IsTimeOverflow = TimeOverflow
finish_of AreTooManyTasks = TooManyTasks
finish_of IsNoMemory = NoMemory

-- the text of a panic that the cause keeps
abbrev pub text_of : RunError → Option (List ℕ)
text_of (HasPanicked text) = Some text
text_of error = None
