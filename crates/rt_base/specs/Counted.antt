-- Calls that count their refusals, and what they note in an environment.
use Rattle.std.specs.Prelude.{ℕ, ◌+◌, ◌-◌, ◌^◌, ◌≤◌, min, Option, List, Result, Ok, Err}
use Rattle.rt_base.specs.declared.error.Error.{Error}
use Rattle.rt_base.specs.declared.error.Error.TheVariants.{NoMemory}
use Rattle.rt_base.specs.Noted.{Noted, Adds}
use Rattle.rt_base.specs.Outside.{HasRisen}

-- the count never falls, and an error other than being out of memory comes only where it rose
abbrev pub Counts : {A : Type 0} → ℕ → ℕ → Result A Error → Type 0
Counts old new (Ok _) = old ≤ new
Counts old new (Err NoMemory) = old ≤ new
Counts old new (Err _) = (old ≤ new) × HasRisen old new

-- one more for an error other than being out of memory, up to the type's end
abbrev pub counted : {A : Type 0} → ℕ → Result A Error → ℕ
counted n (Ok _) = n
counted n (Err NoMemory) = n
counted n (Err _) = min (n + 1) (2 ^ 64 - 1)

-- the record of an environment grows by what a call notes, of which this holds
abbrev pub Notes : Option (List Noted) → (List Noted → Type 0) → Option (List Noted) → Type 0
Notes old P new = (x : List Noted) × Adds old x new × P x
