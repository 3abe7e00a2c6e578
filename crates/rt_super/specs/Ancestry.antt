-- The record of a tree: the nodes ever made, and the ends that were asked for. Who has ended is looked up by ancestry.
use Rattle.std.specs.Prelude.{◌≡◌, ℕ, Bool, true, false, not, ◌||◌, ◌==◌, if◌then◌else◌, List, [], ◌∷◌, ◌++◌, map, filter, filter_map, find, drop, Option, Some, None, is_some, option_and_then}
use Rattle.std.specs.List.{list_any}
use Rattle.std.specs.Option.{option_map_or}

-- a node: its parent, whether it was ended at its birth, whether it is live, and the task on it
pub record NodeState : Type 0 where
  pub number : ℕ
  pub parent : Option ℕ
  pub born_ended : Bool
  pub live : Bool
  pub task : Option ℕ

-- all nodes, the oldest first; the nodes whose end was asked for; the tasks of ended nodes that nobody took yet
pub record TreeRecord : Type 0 where
  pub nodes : List NodeState
  pub ends : List ℕ
  pub flags : List ℕ

-- a node without a task
abbrev pub new_node : ℕ → Option ℕ → Bool → NodeState
new_node number parent born_ended = record { number = number; parent = parent; born_ended = born_ended; live = true; task = None }

-- the record of a new tree: one node, number 0, not ended
abbrev pub first_record : TreeRecord
first_record = record { nodes = new_node 0 None false ∷ []; ends = []; flags = [] }

-- the node with this number
abbrev pub node_at : TreeRecord → ℕ → Option NodeState
node_at r n = find (λ x. x.number == n) r.nodes

abbrev pub is_known : TreeRecord → ℕ → Bool
is_known r n = is_some (node_at r n)

abbrev pub is_live : TreeRecord → ℕ → Bool
is_live r n = option_map_or (λ x. x.live) (node_at r n) false

-- the task on a node, live or released
abbrev pub task_on : TreeRecord → ℕ → Option ℕ
task_on r n = option_and_then (λ x. x.task) (node_at r n)

-- the task on a live node
abbrev pub live_task : TreeRecord → ℕ → Option ℕ
live_task r n = if is_live r n then task_on r n else None

-- ancestry

-- each node with its parent
abbrev pub links : TreeRecord → List (ℕ × Option ℕ)
links r = map (λ x. (x.number, x.parent)) r.nodes

abbrev pub is_child : ℕ → Option ℕ → Bool
is_child a None = false
is_child a (Some parent) = a == parent

-- what is below a node among these later ones: each child, the eldest first, and before the next child what is below
-- it. This is the preorder of the tree; a child is younger than its parent.
abbrev pub nodes_below : ℕ → List (ℕ × Option ℕ) → List ℕ
nodes_below a [] = []
nodes_below a (x ∷ later) =
    if is_child a x.1
    then (x.0 ∷ nodes_below x.0 later) ++ nodes_below a later
    else nodes_below a later

-- a node, and then what is below it
abbrev pub subtree : List (ℕ × Option ℕ) → ℕ → List ℕ
subtree nodes a = a ∷ nodes_below a nodes

-- whether a number is in a list
abbrev pub stands_in : List ℕ → ℕ → Bool
stands_in xs n = list_any (λ x. x == n) xs

-- ended

abbrev pub was_born_ended : TreeRecord → ℕ → Bool
was_born_ended r n = option_map_or (λ x. x.born_ended) (node_at r n) false

-- the node was born ended, or it or an ancestor is in the list of ends
abbrev pub is_ended : TreeRecord → ℕ → Bool
is_ended r n = was_born_ended r n || list_any (λ e. stands_in (subtree (links r) e) n) r.ends

-- every node is ended
unfoldable pub AreEnded : TreeRecord → Type 0
AreEnded r = (n : ℕ) → is_known r n ≡ true → is_ended r n ≡ true

-- the nodes that an end of this one ends: those of its subtree that weren't ended, in preorder
abbrev pub newly_ended : TreeRecord → ℕ → List ℕ
newly_ended r n = filter (λ m. not (is_ended r m)) (subtree (links r) n)

-- the tasks on these nodes
abbrev pub tasks_on : TreeRecord → List ℕ → List ℕ
tasks_on r nodes = filter_map (task_on r) nodes

-- what the calls do to the record

-- a new node with this parent
abbrev pub with_new : TreeRecord → ℕ → Option ℕ → Bool → TreeRecord
with_new r number parent born_ended = record {
  nodes = r.nodes ++ new_node number parent born_ended ∷ [];
  ends = r.ends;
  flags = r.flags;
}

-- a new child: of an ended node it is born ended, without a parent
abbrev pub with_child : TreeRecord → ℕ → ℕ → TreeRecord
with_child r number parent =
    with_new r number (if is_ended r parent then None else Some parent) (is_ended r parent)

-- the record with this node changed
abbrev pub changed : (NodeState → NodeState) → ℕ → TreeRecord → TreeRecord
changed change n r = record {
  nodes = map (λ x. if x.number == n then change x else x) r.nodes;
  ends = r.ends;
  flags = r.flags;
}

-- a task is put on a node
abbrev pub with_task : TreeRecord → ℕ → ℕ → TreeRecord
with_task r n task = changed (λ x. record x { task = Some task }) n r

-- a node isn't live any more, and stays as an ancestor
abbrev pub with_release : TreeRecord → ℕ → TreeRecord
with_release r n = changed (λ x. record x { live = false }) n r

-- the end of a node, live or released, is asked for: the tasks of what it ends are flagged
abbrev pub with_end : TreeRecord → ℕ → TreeRecord
with_end r n =
    if is_known r n
    then record { nodes = r.nodes; ends = r.ends ++ n ∷ []; flags = r.flags ++ tasks_on r (newly_ended r n) }
    else r

-- the first flag is taken
abbrev pub with_flag_taken : TreeRecord → TreeRecord
with_flag_taken r = record { nodes = r.nodes; ends = r.ends; flags = drop 1 r.flags }
