-- What contracts see of the children of a node.
use Rattle.std.specs.Prelude.{ℕ, List, [], ◌∷◌}
use Rattle.rt_super.specs.declared.children.ChildrenKind.{ChildrenKind}
use Rattle.rt_super.specs.declared.children.ChildrenKind.TheVariants.{Nobody, One, Many}

abbrev pub children_of : ChildrenKind → List ℕ
children_of Nobody = []
children_of (One places) = places
children_of (Many places) = places.value.items
