-- What a contract sees of written buffers in a row.
use Rattle.std.specs.Prelude.{ℕ, List}

-- all bytes in order, the chunks in which they lie in memory, in order, and how many bytes fit with
-- no memory
pub record WritableChunks : Type 0 where
  pub bytes : List ℕ
  pub chunks : List (List ℕ)
  pub capacity : ℕ
