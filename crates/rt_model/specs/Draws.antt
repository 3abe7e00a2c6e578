-- What is drawn in a run, and the order of a round, as draws decide it.
use Rattle.std.specs.Prelude.{ℕ, zero, suc, List, [], ◌∷◌, length, ◌+◌, ◌-◌, ◌%◌}
use Rattle.std.specs.List.{swap}

-- what a generator gives: a number of 32 bits, one of 64 bits, or bytes
pub data Drawn : Type 0 where
  Short : (number : ℕ) → Drawn
  Long : (number : ℕ) → Drawn
  Filled : (bytes : List ℕ) → Drawn

-- each draw in turn swaps the place that it is for with one that is no higher, from this place down; what has no draw stays
abbrev pub shuffled_from : ℕ → List ℕ → List ℕ → List ℕ
shuffled_from top xs [] = xs
shuffled_from zero xs (draw ∷ draws) = xs
shuffled_from (suc below) xs (draw ∷ draws) = shuffled_from below (swap xs (suc below) (draw % (below + 2))) draws

-- the shuffle of Fisher and Yates, from the last place down. Without draws it is the plain order
abbrev pub shuffled : List ℕ → List ℕ → List ℕ
shuffled xs draws = shuffled_from (length xs - 1) xs draws
