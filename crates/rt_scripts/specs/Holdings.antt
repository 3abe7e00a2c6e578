-- How a script keeps what its names hold.
use Rattle.std.specs.Global.{Global}
use Rattle.std.specs.Prelude.{ℕ, [], Box, Option, Some, None}
use Rattle.rt_world.specs.Seats.{Roomed}
use Rattle.rt_scripts.specs.declared.held.Held.{Held}

-- what the block shows, or nothing in no place
abbrev pub roomed_in : Option (Box (Roomed (ℕ × Held)) Global) → Roomed (ℕ × Held)
roomed_in None = record { items = []; first = 0; next = 0; spare = 0 }
roomed_in (Some tasks) = tasks.value
