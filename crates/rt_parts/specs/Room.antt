-- The room that parts take in advance.
use Rattle.std.specs.Prelude.{◌+◌, ℕ, List, [], ◌∷◌, Bool, true, false, not, Option, Some, None}
use Rattle.rt_model.specs.declared.result.Outcome.{Outcome}
use Rattle.rt_model.specs.declared.result.Outcome.TheVariants.{Open}
use Rattle.rt_model.specs.declared.result.TaskResult.{TaskResult}
use Rattle.rt_model.specs.Results.{waits_for}

-- 1 where it is so
abbrev pub ones : Bool → ℕ
ones true = 1
ones false = 0

-- a wake of who waits for a result that is open
abbrev pub open_places : Outcome → ℕ
open_places (Open waits) = 1
open_places _ = 0

-- the giving up of a result, the abort by it, and that wake
abbrev pub result_places : TaskResult → ℕ
result_places r = 1 + ones (not r.aborted) + open_places r.outcome

-- the sending into a slot, or its closing
abbrev pub sender_places : Unit {0} → ℕ
sender_places sender = 1

-- the entries that an outcome asks for, and who waits by it
abbrev pub open_in : Option Outcome → ℕ
open_in None = 0
open_in (Some outcome) = open_places outcome

abbrev pub waiter_in : Option Outcome → Option ℕ
waiter_in None = None
waiter_in (Some outcome) = waits_for outcome
