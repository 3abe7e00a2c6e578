-- The flat list of bytes that a reader stands for.
use Rattle.std.specs.Prelude.{◌≡◌, ℕ, ◌≤◌, List, length, take, drop}
use Rattle.rt_buffer.specs.Reading.{Ahead}

-- a reader stands for the first bytes of its blob, up to its size, and a place in them: what it holds is what they have
-- from there on
abbrev pub StandsFor : Ahead → List ℕ → Type 0
StandsFor a bytes = (a.size ≤ length bytes) × (a.held ≡ take (length a.held) (drop a.position bytes))
