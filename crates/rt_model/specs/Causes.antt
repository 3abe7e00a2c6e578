-- The cause that a run has reached, if it has reached one. A run goes past none of these places.
use Rattle.std.specs.Prelude.{ℕ, List, [], ◌∷◌, Option, Some, None, Bool, true, false, leb, ltb, ◌+◌, ◌-◌, ◌^◌, if◌then◌else◌, ◌&&◌}
use Rattle.rt_base.specs.declared.time.TheConstants.{MAX_TIME}
use Rattle.rt_audit.specs.declared.finish.FinishCause.{FinishCause}
use Rattle.rt_audit.specs.declared.finish.FinishCause.TheVariants.{Timeout, Stalled, TimeOverflow, TooManyTasks}
use Rattle.rt_super.specs.Alarms.{Alarm}
use Rattle.rt_model.specs.Lists.{is_nil, has_number, is_some_number, or_else}
use Rattle.rt_model.specs.State.{Phase, Blank, Making, Between, Visiting, Entered, Polling, Halted, Ending, Leaving, Turning, Over, Cleaning, Closing, Crashed, Finished, Clock, State}
use Rattle.rt_model.specs.Alarms.{skip_to, fires}

-- the deadline is there
abbrev pub is_late_at : Option ℕ → ℕ → Bool
is_late_at None time = false
is_late_at (Some deadline) time = leb deadline time

abbrev pub is_late : Clock → Bool
is_late c = is_late_at c.fixed.deadline c.time

-- a cycle more would pass the last moment
abbrev pub overflows : Clock → Bool
overflows c = ltb MAX_TIME (c.time + c.fixed.cycle)

-- the numbers of a round from the first on that runs. Those before it are skipped
abbrev pub from_running : List ℕ → List ℕ → List ℕ
from_running running [] = []
from_running running (k ∷ left) = if has_number k running then k ∷ left else from_running running left

-- the task that a cleanup ends next: the first in order of numbers, the root last
abbrev pub ends_next : List ℕ → Option ℕ → Option ℕ
ends_next [] root = None
ends_next (k ∷ running) root = if is_some_number k root then or_else (ends_next running root) (Some k) else Some k

-- in a clock step: with nothing to skip to, the deadline; and after the firing, nobody ready and no alarm
abbrev pub turning_cause : Option ℕ → Bool → Option ℕ → List ℕ → List Alarm → Option FinishCause
turning_cause (Some due) late firing ready set = None
turning_cause None true firing ready set = Some Timeout
turning_cause None false (Some alarm) ready set = None
turning_cause None false None [] [] = Some Stalled
turning_cause None false None [] (a ∷ set) = None
turning_cause None false None (k ∷ ready) set = None

abbrev pub where_true : Bool → FinishCause → Option FinishCause
where_true true cause = Some cause
where_true false cause = None

abbrev pub cause_at : Phase → State → Option FinishCause
cause_at Making s = where_true (leb (2 ^ 64 - 1) s.numbers.next) TooManyTasks
cause_at Between s = where_true (is_late s.clock) Timeout
cause_at (Visiting left) s = where_true (is_nil (from_running s.running left) && overflows s.clock) TimeOverflow
cause_at Turning s =
    turning_cause
    (skip_to s.ready s.stood.alarms.alarms s.clock.time) (is_late s.clock) (fires s.stood.alarms.alarms s.clock.time) s.ready s.stood.alarms.alarms
cause_at (Over cause) s = Some cause
cause_at Blank s = None
cause_at (Entered task left) s = None
cause_at (Polling task left) s = None
cause_at (Halted task) s = None
cause_at (Ending task result left) s = None
cause_at (Leaving task result left) s = None
cause_at (Cleaning cause) s = cause
cause_at (Closing cause) s = cause
cause_at (Crashed cause) s = cause
cause_at (Finished cause) s = Some cause

abbrev pub reached : State → Option FinishCause
reached s = cause_at s.phase s
