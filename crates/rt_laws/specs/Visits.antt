-- Where a run stands in a visit.
use Rattle.rt_model.specs.State.{Phase, Entered, Polling, Halted, Ending, Leaving}

-- a visit has begun, and isn't over
abbrev pub IsInVisit : Phase → Type 0
IsInVisit (Entered task left) = Unit {0}
IsInVisit (Polling task left) = Unit {0}
IsInVisit (Halted task) = Unit {0}
IsInVisit (Ending task result left) = Unit {0}
IsInVisit (Leaving task result left) = Unit {0}
IsInVisit _ = ⊥
