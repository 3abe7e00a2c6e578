-- How the nodes of a tree are kept: as rows, with the numbers of those that have ended.
use Rattle.std.specs.Prelude.{◌≡◌, false, ℕ, Option, [], ◌∷◌, List, map, if◌then◌else◌}
use Rattle.std.specs.List.{list_any}
use Rattle.rt_super.specs.Ancestry.{NodeState, TreeRecord, is_child, is_ended}
use Rattle.rt_model.specs.Lists.{has_number}
use Rattle.rt_walk.specs.Family.{children_in}
use Rattle.rt_walk.specs.Places.{AreDistinct}
use Rattle.rt_walk.specs.declared.nodes.Nodes.TheInside.{Inside}

-- each node with its parent
abbrev pub links_of : List NodeState → List (ℕ × Option ℕ)
links_of nodes = map (λ x. (x.number, x.parent)) nodes

-- nobody's flag waits between two entries
abbrev pub told_by : List NodeState → List ℕ → TreeRecord
told_by nodes ends = record { nodes = nodes; ends = ends; flags = [] }

abbrev pub record_of : Inside → TreeRecord
record_of t = told_by t.rows.items t.ends.items

-- the numbers that are kept are those of the nodes that have ended
abbrev pub AreEnded : List ℕ → TreeRecord → Type 0
AreEnded ended r = (n : ℕ) → has_number n ended ≡ is_ended r n

-- the children of a node, the eldest first
abbrev pub children_of : List (ℕ × Option ℕ) → ℕ → List ℕ
children_of [] node = []
children_of (x ∷ later) node = if is_child node x.1 then x.0 ∷ children_of later node else children_of later node

-- nobody's parent is at its own place or after it
abbrev pub AreElders : List (ℕ × Option ℕ) → Type 0
AreElders [] = Unit {0}
AreElders (x ∷ later) = (list_any (λ y. is_child y.0 x.1) (x ∷ later) ≡ false) × AreElders later

abbrev pub numbers_of : List NodeState → List ℕ
numbers_of nodes = map (λ x. x.number) nodes

-- and each node is at the place of its number, which no other has, after its parent, and its children are kept
pub record IsRight (t : Inside) : Type 0 where
  pub ended : AreEnded t.ended.numbers (record_of t)
  pub placed : t.places.numbers ≡ numbers_of t.rows.items
  pub distinct : AreDistinct t.places.numbers
  pub children : (node : ℕ) → children_in t.family node ≡ children_of (links_of t.rows.items) node
  pub elders : AreElders (links_of t.rows.items)
