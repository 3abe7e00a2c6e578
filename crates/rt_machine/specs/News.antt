-- A mark of a task that wasn't left pending.
use Rattle.std.specs.Prelude.{Bool, false, not, Option}
use Rattle.std.specs.Option.{option_map_or}
use Rattle.rt_model.specs.declared.mark.Mark.{Mark}

abbrev pub is_new : Option Mark → Bool
is_new m = option_map_or (λ m. not m.left) m false
