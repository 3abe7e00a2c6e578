-- What a contract sees of buffers in a row.
use Rattle.std.specs.Prelude.{ℕ, ◌<◌, List, [], ◌∷◌, length, All}

-- all bytes in order, and the chunks in which they lie in memory, in order
pub record Chunked : Type 0 where
  pub bytes : List ℕ
  pub chunks : List (List ℕ)

-- the chunks that one buffer adds: itself, or none where it has no bytes
abbrev pub chunks_of : List ℕ → List (List ℕ)
chunks_of [] = []
chunks_of (b ∷ bs) = (b ∷ bs) ∷ []

-- no chunk is empty
abbrev pub NoneEmpty : List (List ℕ) → Type 0
NoneEmpty chunks = All (λ c. 0 < length c) chunks
