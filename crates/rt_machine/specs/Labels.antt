-- The labels of nodes, by their numbers.
use Rattle.std.specs.Prelude.{ℕ, List, [], ◌∷◌, ◌+◌, ◌<◌, get_or, length, map}
use Rattle.rt_machine.specs.declared.labels.NodeLabel.{NodeLabel}
use Rattle.rt_machine.specs.declared.labels.NodeLabel.TheVariants.{Short, Long}

abbrev pub numbered : {V : Type 0} → ℕ → List V → List (ℕ × V)
numbered k [] = []
numbered k (v ∷ vs) = (k, v) ∷ numbered (k + 1) vs

-- the label of a node, where these are the long ones
abbrev pub label_in : List (List ℕ) → NodeLabel → List ℕ
label_in longs (Short label) = label
label_in longs (Long place) = get_or longs place []

-- those of the nodes, in order
abbrev pub labelled : List (List ℕ) → List NodeLabel → List (List ℕ)
labelled longs labels = map (label_in longs) labels

-- the place of a long one lies among so many
abbrev pub IsThere : ℕ → NodeLabel → Type 0
IsThere count (Short label) = Unit
IsThere count (Long place) = place < count

-- a text too long to be kept in place
abbrev pub IsLong : List ℕ → Type 0
IsLong text = 22 < length text

-- the labels, how many there are, and how many more have room
pub record Labelled : Type 0 where
  pub items : List (ℕ × List ℕ)
  pub count : ℕ
  pub spare : ℕ
