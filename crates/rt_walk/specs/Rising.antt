-- Numbers that rise.
use Rattle.std.specs.Prelude.{ℕ, List, [], ◌∷◌, ◌≤◌}

-- none of these is below the number
abbrev pub AreFrom : ℕ → List ℕ → Type 0
AreFrom x [] = Unit {0}
AreFrom x (y ∷ ys) = (x ≤ y) × AreFrom x ys

-- none is below one before it
abbrev pub AreRising : List ℕ → Type 0
AreRising [] = Unit {0}
AreRising (x ∷ xs) = AreFrom x xs × AreRising xs
