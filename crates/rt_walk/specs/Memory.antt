-- Where it takes memory to say whether an entry may come.
use Rattle.rt_audit.specs.declared.entry.Entry.{Entry}
use Rattle.rt_audit.specs.declared.entry.Entry.TheVariants.{Round}

-- the order of a round is compared
abbrev pub TakesMemory : Entry → Type 0
TakesMemory (Round order) = Unit {0}
TakesMemory e = ⊥
