-- Names lead to blobs.
use Rattle.std.specs.Prelude.{ℕ, ◌+◌, ◌≤◌, ◌==◌, Bool, true, false, not, List, [], ◌∷◌, map, Option, None, Some, nat_lt, slice_get}
use Rattle.rt_store.specs.Directory.{Names, Partitions, named_numbers, numbers}
use Rattle.rt_store.specs.File.{FileState}
use Rattle.rt_store.specs.Store.{StoreState}

abbrev pub one_if : Bool → ℕ
one_if true = 1
one_if false = 0

-- how many of these numbers are this one
abbrev pub same : ℕ → ℕ → ℕ
same n m = one_if (n == m)

abbrev pub times : ℕ → List ℕ → ℕ
times n [] = 0
times n (m ∷ ms) = same n m + times n ms

-- of each blob whether it was removed
abbrev pub removals : List FileState → List Bool
removals files = map (λ b. b.removed) files

-- 1 where a blob is there that wasn't removed, and else 0
abbrev pub standing : Option Bool → ℕ
standing None = 0
standing (Some removed) = one_if (not removed)

-- each name leads to a blob that is there and wasn't removed, and no two names to the same one
pub record LeadToBlobs (d : Partitions) (removed : List Bool) : Type 0 where
  pub once : (n : ℕ) → times n (named_numbers d) ≤ standing (slice_get removed n)

abbrev pub IsCoherent : StoreState → Type 0
IsCoherent s = LeadToBlobs s.directory (removals s.files)

-- each partition leads to a shelf that is there, and no two partitions to the same one
pub record LeadToShelves (shelf : Names) (shelves : ℕ) : Type 0 where
  pub once : (n : ℕ) → times n (numbers shelf) ≤ one_if (nat_lt n shelves)
