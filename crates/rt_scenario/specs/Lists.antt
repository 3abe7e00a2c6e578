-- Many lists whose items are in one list.
use Rattle.std.specs.Prelude.{ℕ, List, ◌≤◌, length}

-- from the first place of a list up to the one past its last, within these items
abbrev pub IsSpan : {V : Type 0} → List V → (ℕ × ℕ) → Type 0
IsSpan items s = (s.0 ≤ s.1) × (s.1 ≤ length items)
