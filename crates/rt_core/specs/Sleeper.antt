-- What contracts see of a sleep.
use Rattle.std.specs.Prelude.{ℕ, Option}

-- the moment from which on it is over, and the number of its alarm
pub record Sleeper : Type 0 where
  pub deadline : ℕ
  pub alarm : Option ℕ
