-- Whom a number means: each its task, but for one number that no task has.
use Rattle.std.specs.Prelude.{ℕ, ◌==◌, if◌then◌else◌, Option, Some, None}
use Rattle.rt_super.specs.declared.waker.TheConstants.{NOBODY}

abbrev pub waker_of : ℕ → Option ℕ
waker_of number = if number == NOBODY then None else Some number

-- an alarm's number with the task that this number means
abbrev pub named_of : ℕ × ℕ → ℕ × Option ℕ
named_of r = (r.0, waker_of r.1)
