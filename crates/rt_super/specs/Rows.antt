-- What numbers have, as a list of places in their order.
use Rattle.std.specs.Prelude.{◌≡◌, ℕ, List, [], ◌∷◌, ◌+◌, ◌≤◌, Option, Some, None, eqb, if◌then◌else◌}

-- those that have something, from a first number on
abbrev pub rows : {V : Type 0} → ℕ → List (Option V) → List (ℕ × V)
rows k [] = []
rows k (None ∷ places) = rows (k + 1) places
rows k (Some v ∷ places) = (k, v) ∷ rows (k + 1) places

-- what the numbers have, the next number, and how many more have room
pub record Rows (V : Type 0) : Type 0 where
  pub items : List (ℕ × V)
  pub next : ℕ
  pub spare : ℕ

-- the sum of what each has
abbrev pub total : {V : Type 0} → (V → ℕ) → List (ℕ × V) → ℕ
total f [] = 0
total f (x ∷ xs) = f x.1 + total f xs

-- what a number has

abbrev pub find : {A : Type 0} → ℕ → List (ℕ × A) → Option A
find k [] = None
find k (x ∷ xs) = if eqb x.0 k then Some x.1 else find k xs

abbrev pub without : {A : Type 0} → ℕ → List (ℕ × A) → List (ℕ × A)
without k [] = []
without k (x ∷ xs) = if eqb x.0 k then xs else x ∷ without k xs

-- with this in the place of what the number has. A number that has nothing gets nothing
abbrev pub replaced : {A : Type 0} → (A → A) → ℕ → List (ℕ × A) → List (ℕ × A)
replaced change k [] = []
replaced change k (x ∷ xs) = if eqb x.0 k then (k, change x.1) ∷ xs else x ∷ replaced change k xs

abbrev pub those : {A : Type 0} → Option A → List A
those None = []
those (Some x) = x ∷ []

-- each number is less than those after it
abbrev pub AreRising : {A : Type 0} → List (ℕ × A) → Type 0
AreRising [] = Unit {0}
AreRising (x ∷ xs) = ((n : ℕ) → n ≤ x.0 → find n xs ≡ None) × AreRising xs
