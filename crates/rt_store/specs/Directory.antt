-- Names in the order of their bytes: what a name finds, and what changes.
use Rattle.std.specs.Prelude.{ℕ, Bool, List, [], ◌∷◌, ◌++◌, length, map, Option, None, Some, slice_get, slice_set}
use Rattle.std.specs.Cmp.Lexicographic.{slice_cmp}
use Rattle.std.specs.Ordering.{is_eq, nat_cmp}
use Rattle.std.specs.Map.{lookup, remove_entry}
use Rattle.std.specs.BTreeMap.{insert_entry}
use Rattle.std.specs.List.Sorted.{IsStrictlySortedBy}

-- the names are the same
abbrev pub is_name : List ℕ → List ℕ → Bool
is_name q n = is_eq (slice_cmp nat_cmp q n)

-- what is at a name
abbrev pub at_name : {X : Type 0} → List ℕ → List (List ℕ × X) → Option X
at_name q es = lookup (is_name q) es

-- something at a name, in its place in the order
abbrev pub put_name : {X : Type 0} → List ℕ → X → List (List ℕ × X) → List (List ℕ × X)
put_name q x es = insert_entry (slice_cmp nat_cmp) es q x

-- each name is below those after it, by their bytes
abbrev pub Ascend : List (List ℕ) → Type 0
Ascend names = IsStrictlySortedBy (slice_cmp nat_cmp) names

-- nothing at a name
abbrev pub without_name : {X : Type 0} → List ℕ → List (List ℕ × X) → List (List ℕ × X)
without_name q es = remove_entry (is_name q) es

-- Names with their numbers.
abbrev pub Names : Type 0
Names = List (List ℕ × ℕ)

-- `shelf` has the partitions that are there, each with the number of its shelf, and a shelf the blobs by name
pub record Partitions : Type 0 where
  pub shelf : Names
  pub shelves : List Names

-- the numbers, in the order of the names
abbrev pub numbers : Names → List ℕ
numbers names = map (λ e. e.1) names

abbrev pub no_partitions : Partitions
no_partitions = record { shelf = []; shelves = [] }

-- the names of a partition, where it is there
abbrev pub at_shelf : List Names → Option ℕ → Option Names
at_shelf shelves None = None
at_shelf shelves (Some n) = slice_get shelves n

abbrev pub names_in : List ℕ → Partitions → Option Names
names_in partition d = at_shelf d.shelves (at_name partition d.shelf)

-- the number of the blob of a name
abbrev pub in_names : List ℕ → Option Names → Option ℕ
in_names name None = None
in_names name (Some names) = at_name name names

abbrev pub number_of : List ℕ → List ℕ → Partitions → Option ℕ
number_of partition name d = in_names name (names_in partition d)

-- a name gets a number; its partition is made where it isn't there
abbrev pub named_in : List ℕ → List ℕ → ℕ → Partitions → Option ℕ → Option Names → Partitions
named_in partition name n d (Some shelf) (Some names) = record d { shelves = slice_set d.shelves shelf (put_name name n names) }
named_in partition name n d shelf names =
    record { shelf = put_name partition (length d.shelves) d.shelf; shelves = d.shelves ++ put_name name n [] ∷ [] }

abbrev pub named : List ℕ → List ℕ → ℕ → Partitions → Partitions
named partition name n d = named_in partition name n d (at_name partition d.shelf) (names_in partition d)

-- a name goes
abbrev pub unnamed_in : List ℕ → Partitions → Option ℕ → Option Names → Partitions
unnamed_in name d (Some shelf) (Some names) = record d { shelves = slice_set d.shelves shelf (without_name name names) }
unnamed_in name d shelf names = d

abbrev pub unnamed : List ℕ → List ℕ → Partitions → Partitions
unnamed partition name d = unnamed_in name d (at_name partition d.shelf) (names_in partition d)

-- a partition goes, and with it its names
abbrev pub emptied : List Names → Option ℕ → List Names
emptied shelves None = shelves
emptied shelves (Some shelf) = slice_set shelves shelf []

abbrev pub without_partition : List ℕ → Partitions → Partitions
without_partition partition d =
    record { shelf = without_name partition d.shelf; shelves = emptied d.shelves (at_name partition d.shelf) }

-- the names of a partition in their order, and the numbers of its blobs in that order; none where it isn't there
abbrev pub names_of : Option Names → List (List ℕ)
names_of None = []
names_of (Some names) = map (λ e. e.0) names

abbrev pub numbers_of : Option Names → List ℕ
numbers_of None = []
numbers_of (Some names) = numbers names

-- the numbers of all blobs that have a name: partitions in order, and names in order
abbrev pub all_numbers : List Names → List ℕ → List ℕ
all_numbers shelves [] = []
all_numbers shelves (shelf ∷ rest) = numbers_of (slice_get shelves shelf) ++ all_numbers shelves rest

abbrev pub named_numbers : Partitions → List ℕ
named_numbers d = all_numbers d.shelves (numbers d.shelf)
