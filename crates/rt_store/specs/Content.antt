-- The bytes of a blob after a write, and after a change of its length.
use Rattle.std.specs.Prelude.{ℕ, ◌+◌, ◌-◌, List, ◌++◌, length, take, drop, replicate}

-- bytes are put at an offset, and those between the old end and the offset become zero
abbrev pub written : ℕ → List ℕ → List ℕ → List ℕ
written at bytes old = take at old ++ (replicate (at - length old) 0 ++ (bytes ++ drop (at + length bytes) old))

-- cut, or extended with zeros
abbrev pub resized : ℕ → List ℕ → List ℕ
resized len old = take len old ++ replicate (len - length old) 0
