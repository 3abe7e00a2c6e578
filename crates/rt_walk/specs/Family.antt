-- The children that are kept of each node.
use Rattle.std.specs.Prelude.{ℕ, List, [], nat_eq}
use Rattle.std.specs.HashMap.{get}
use Rattle.std.specs.Option.{option_map_or}
use Rattle.rt_walk.specs.declared.family.Family.{Family}

abbrev pub children_in : Family → ℕ → List ℕ
children_in f node = option_map_or (λ children. children.items) (get nat_eq f.children node) []
