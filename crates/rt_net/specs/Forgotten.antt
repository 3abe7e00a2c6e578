-- The bytes of a channel that are no longer kept.
use Rattle.std.specs.Prelude.{◌≡◌, ℕ, ◌+◌, List, [], ◌++◌, take}

-- `before` is the bytes that were answered, `after` those that were kept when the channel was gone, and `moved` how
-- many of these the stream held
pub record Past : Type 0 where
  pub before : List ℕ
  pub after : List ℕ
  pub moved : ℕ

abbrev pub nothing_forgotten : Past
nothing_forgotten = record { before = []; after = []; moved = 0 }

-- no byte was lost that wasn't answered
pub record IsWhole (p : Past) : Type 0 where
  pub after : p.after ≡ []
  pub moved : p.moved ≡ 0

-- the first bytes of those kept were answered
abbrev pub with_answered : Past → List ℕ → ℕ → Past
with_answered p bytes count = record p { before = p.before ++ take count bytes }

-- all bytes kept are forgotten
abbrev pub with_lost : Past → List ℕ → ℕ → Past
with_lost p bytes held = record p { after = bytes ++ p.after; moved = held + p.moved }
