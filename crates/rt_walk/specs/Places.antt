-- Where numbers are in a list.
use Rattle.std.specs.Prelude.{◌≡◌, ℕ, List, [], ◌∷◌, ◌+◌, Option, Some, None, option_map, eqb, if◌then◌else◌}

-- the place at which a number is first
abbrev pub first_place : ℕ → List ℕ → Option ℕ
first_place k [] = None
first_place k (x ∷ xs) = if eqb x k then Some 0 else option_map (λ i. i + 1) (first_place k xs)

-- this finds the place of each number
abbrev pub ArePlaced : (ℕ → Option ℕ) → List ℕ → Type 0
ArePlaced place numbers = (k : ℕ) → place k ≡ first_place k numbers

-- no number is there twice
abbrev pub AreDistinct : List ℕ → Type 0
AreDistinct [] = Unit {0}
AreDistinct (x ∷ xs) = (first_place x xs ≡ None) × AreDistinct xs

-- the numbers, and for how many more there is room
pub record Placed : Type 0 where
  pub numbers : List ℕ
  pub room : ℕ
  pub spare : ℕ

-- each number with what is at its place, where something is
abbrev pub kept : {V : Type 0} → List ℕ → List (Option V) → List (ℕ × V)
kept [] vs = []
kept (n ∷ ns) [] = []
kept (n ∷ ns) (None ∷ vs) = kept ns vs
kept (n ∷ ns) (Some v ∷ vs) = (n, v) ∷ kept ns vs
