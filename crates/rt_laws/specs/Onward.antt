-- By which entries a run goes on.
use Rattle.rt_audit.specs.declared.entry.Entry.{Entry}
use Rattle.rt_audit.specs.declared.entry.Entry.TheVariants.{Round, Visit, Advance, Skip, Fire}

-- a round, a visit or a step of the clock
abbrev pub IsOnward : Entry → Type 0
IsOnward (Round order) = Unit {0}
IsOnward (Visit task) = Unit {0}
IsOnward (Advance now) = Unit {0}
IsOnward (Skip now) = Unit {0}
IsOnward (Fire alarm) = Unit {0}
IsOnward e = ⊥
