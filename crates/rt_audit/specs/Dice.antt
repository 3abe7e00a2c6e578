-- What an environment keeps that draws from a generator.
use Rattle.std.specs.Prelude.{◌≡◌, ℕ, List, [], ◌∷◌, ◌++◌}
use Rattle.rand_core.specs.Stream.{Stream, next_u64}
use Rattle.rt_base.specs.Noted.{Noted, Happened as IsEvent, Drawn as IsDraw}
use Rattle.rt_audit.specs.declared.dice.Note.{Note}
use Rattle.rt_audit.specs.declared.dice.Note.TheVariants.{Happened, Drawn}

abbrev pub noted_one : Note → Noted
noted_one (Happened event) = IsEvent event
noted_one (Drawn number) = IsDraw number

abbrev pub noted_all : List Note → List Noted
noted_all [] = []
noted_all (n ∷ ns) = noted_one n ∷ noted_all ns

-- the numbers that were drawn among these
abbrev pub draws_in : List Note → List ℕ
draws_in [] = []
draws_in (Happened event ∷ ns) = draws_in ns
draws_in (Drawn number ∷ ns) = number ∷ draws_in ns

-- a stream gives these numbers one after another, and then this one is left
abbrev pub Gives : Stream → List ℕ → Stream → Type 0
Gives from [] left = from ≡ left
Gives from (number ∷ more) left = ((next_u64 from).0 ≡ number) × Gives (next_u64 from).1 more left

-- since then more was noted, and what was drawn is the next of the stream
pub record Rolled (from left : Stream) (old new : List Note) : Type 0 where
  pub more : List Note
  pub are : new ≡ old ++ more
  pub gives : Gives from (draws_in more) left
