-- What a contract sees of a buffer that is written.
use Rattle.std.specs.Prelude.{ℕ, List}

-- the bytes so far, and how many fit with no memory, those that are there with them
pub record Writable : Type 0 where
  pub bytes : List ℕ
  pub capacity : ℕ
