-- The earliest of the alarms that are set.
use Rattle.std.specs.Prelude.{◌≡◌, ◌≤◌, ℕ, List, All, Contains}
use Rattle.rt_super.specs.Alarms.{Alarm}

-- one of these alarms is due at this time, and none is due before it
abbrev pub IsEarliest : List Alarm → ℕ → Type 0
IsEarliest alarms due = ((a : Alarm) × Contains alarms a × (a.due ≡ due)) × All (λ (b : Alarm). due ≤ b.due) alarms
