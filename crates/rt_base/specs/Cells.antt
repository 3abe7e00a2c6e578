-- Whether a context is in its cell.
use Rattle.std.specs.Prelude.{Bool, true, false}
use Rattle.rt_base.specs.declared.cell.Cell.{Cell}
use Rattle.rt_base.specs.declared.cell.Cell.TheVariants.{Present, Missing}

abbrev pub is_there : {C : Type 0} → Cell C → Bool
is_there (Present context) = true
is_there Missing = false
