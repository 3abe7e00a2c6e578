-- What sources and sinks show of themselves: the bytes left or held, if they show them, and a
-- count of faults.
use Rattle.std.specs.Prelude.{◌≡◌, ℕ, ◌-◌, ◌^◌, ◌<◌, ◌≤◌, List, ◌++◌, Option, Some, IfSome, take, drop, length}

-- the count rose; one that is at the end of its type passes as risen
abbrev pub HasRisen : ℕ → ℕ → Type 0
HasRisen old new = old < 2 ^ 64 - 1 → old < new

-- a read into so much room took the first n bytes of what was left, and n is 0 only where there
-- is no room or nothing is left
abbrev pub Takes : Option (List ℕ) → ℕ → ℕ → List ℕ → Option (List ℕ) → Type 0
Takes old room n buf new =
    IfSome old (λ left.
    (n ≤ length left) × (take n buf ≡ take n left) × (new ≡ Some (drop n left)) × (0 < room → 0 < length left → 0 < n))

-- a sink that shows what it holds showed it before, and it is that and then these bytes
abbrev pub Appends : Option (List ℕ) → List ℕ → Option (List ℕ) → Type 0
Appends old more new = IfSome new (λ all. (held : List ℕ) × (old ≡ Some held) × (all ≡ held ++ more))
