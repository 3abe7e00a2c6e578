-- How a tree is kept in memory.
use Rattle.std.specs.Prelude.{◌≡◌, ◌⊎◌, ℕ, suc, ◌+◌, ◌<◌, Bool, true, false, if◌then◌else◌, List, [], ◌∷◌, ◌++◌, map, length, get_or, set, slice_get, Option, Some, None, option_map}
use Rattle.rt_super.specs.Ancestry.{NodeState, TreeRecord, node_at, links, is_ended, is_child}
use Rattle.rt_super.specs.declared.node.Node.{Node}

abbrev pub parents : List Node → List (Option ℕ)
parents nodes = map (λ x. x.parent) nodes

-- whether each node is live, and its task
abbrev pub states : List Node → List (Bool × Option ℕ)
states nodes = map {B = Bool × Option ℕ} (λ x. (x.live, x.task)) nodes

abbrev pub children_lists : List Node → List (List ℕ)
children_lists nodes = map (λ x. x.children) nodes

-- each parent with the place of its child, from a place on
abbrev pub placed : ℕ → List (Option ℕ) → List (ℕ × Option ℕ)
placed i [] = []
placed i (parent ∷ rest) = (i, parent) ∷ placed (suc i) rest

-- whether a place is marked as ended
abbrev pub is_marked : List Bool → ℕ → Bool
is_marked ended n = get_or ended n false

-- the lists with a child more
abbrev pub adopted : List (List ℕ) → Option ℕ → ℕ → List (List ℕ)
adopted lists None child = lists
adopted lists (Some parent) child = set lists parent (get_or lists parent [] ++ child ∷ [])

-- the places of a node's children, from a place on
abbrev pub children_from : ℕ → ℕ → List (Option ℕ) → List ℕ
children_from a i [] = []
children_from a i (parent ∷ rest) = if is_child a parent then i ∷ children_from a (suc i) rest else children_from a (suc i) rest

-- each parent is before its child
abbrev pub IsOlder : Option ℕ → ℕ → Type 0
IsOlder None i = Unit {0}
IsOlder (Some parent) i = parent < i

abbrev pub AreOlder : ℕ → List (Option ℕ) → Type 0
AreOlder i [] = Unit {0}
AreOlder i (parent ∷ rest) = IsOlder parent i × AreOlder (suc i) rest

-- where a parent is marked, its children from a place on are
abbrev pub IsClosed : (ℕ → Bool) → ℕ → List (Option ℕ) → Type 0
IsClosed mark i rest = (k parent : ℕ) → slice_get rest k ≡ Some (Some parent) → mark parent ≡ true → mark (i + k) ≡ true

-- a node without a parent is the first or is marked
abbrev pub IsRooted : (ℕ → Bool) → List (Option ℕ) → Type 0
IsRooted mark parents = (n : ℕ) → slice_get parents n ≡ Some None → (n ≡ 0) ⊎ (mark n ≡ true)

-- how many marks are set
abbrev pub marks_set : List Bool → ℕ
marks_set [] = 0
marks_set (mark ∷ rest) = (if mark then 1 else 0) + marks_set rest

-- the lists of children are right, and the marks are those of whole subtrees
pub record IsSound (parents : List (Option ℕ)) (children : List (List ℕ)) (ended : List Bool) : Type 0 where
  pub lengths : length ended ≡ length parents
  pub same : length children ≡ length parents
  pub older : AreOlder 0 parents
  pub lists : (n : ℕ) → get_or children n [] ≡ children_from n 0 parents
  pub closed : IsClosed (is_marked ended) 0 parents
  pub rooted : IsRooted (is_marked ended) parents

abbrev pub state_of : NodeState → Bool × Option ℕ
state_of x = (x.live, x.task)

-- What is kept is right by a record: the nodes are those of the record, each at the place of its number, the marks are on what
-- the record finds ended, and the flags are the same.
pub record Matches (above : List (Option ℕ)) (kept : List (Bool × Option ℕ)) (marks : List Bool) (noted : List ℕ) (r : TreeRecord) : Type 0 where
  pub order : links r ≡ placed 0 above
  pub nodes : (n : ℕ) → option_map state_of (node_at r n) ≡ slice_get kept n
  pub ended : (n : ℕ) → is_ended r n ≡ is_marked marks n
  pub flags : r.flags ≡ noted
