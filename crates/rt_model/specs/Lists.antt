-- Lists of numbers, sorted or not.
pub use Rattle.rt_super.specs.Rows.{find, without, replaced, those}
use Rattle.std.specs.Prelude.{ℕ, List, [], ◌∷◌, Option, Some, None, Bool, true, false, ltb, eqb, if◌then◌else◌, ◌||◌}

abbrev pub is_nil : {A : Type 0} → List A → Bool
is_nil [] = true
is_nil (x ∷ xs) = false

abbrev pub has_number : ℕ → List ℕ → Bool
has_number k [] = false
has_number k (x ∷ xs) = eqb x k || has_number k xs

-- without its first occurrence
abbrev pub without_number : ℕ → List ℕ → List ℕ
without_number k [] = []
without_number k (x ∷ xs) = if eqb x k then xs else x ∷ without_number k xs

-- in its place among sorted ones
abbrev pub with_number : ℕ → List ℕ → List ℕ
with_number k [] = k ∷ []
with_number k (x ∷ xs) = if ltb k x then k ∷ (x ∷ xs) else x ∷ with_number k xs

abbrev pub is_some_number : ℕ → Option ℕ → Bool
is_some_number k None = false
is_some_number k (Some other) = eqb k other

abbrev pub or_else : {A : Type 0} → Option A → Option A → Option A
or_else None other = other
or_else (Some x) other = Some x
