-- How a small text is kept.
use Rattle.std.specs.Prelude.{ℕ, List, ◌<◌, length}
use Rattle.rt_base.specs.declared.small_text.TextKind.{TextKind}
use Rattle.rt_base.specs.declared.small_text.TextKind.TheVariants.{Short, Long}

abbrev pub kind_text : TextKind → List ℕ
kind_text (Short text) = text
kind_text (Long text) = text.value

-- only what is too long to be kept in place is kept elsewhere
abbrev pub IsKept : TextKind → Type 0
IsKept (Short text) = Unit {0}
IsKept (Long text) = 22 < length text.value
