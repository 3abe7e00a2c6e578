-- What is drawn for the order of a round, and what a generator leaves of that and of the calls that draw.
use Rattle.std.specs.Prelude.{◌≡◌, ◌+◌, ◌-◌, ◌++◌, ℕ, List, [], ◌∷◌, length, map}
use Rattle.rand_core.specs.Stream.{Stream, next_u32, next_u64, fill_bytes}
use Rattle.rt_audit.specs.declared.entry.Entry.TheVariants.{Draw, Round}
use Rattle.rt_model.specs.Draws.{Drawn, Short, Long, Filled, shuffled}
use Rattle.rt_model.specs.Effects.{after}
use Rattle.rt_machine.specs.Told.{Told, Journaled, pushed, pushed_all}

-- a stream gives these one after another, and then this one is left
abbrev pub Gave : Stream → List Drawn → Stream → Type 0
Gave from [] left = from ≡ left
Gave from (Short number ∷ more) left = ((next_u32 from).0 ≡ number) × Gave (next_u32 from).1 more left
Gave from (Long number ∷ more) left = ((next_u64 from).0 ≡ number) × Gave (next_u64 from).1 more left
Gave from (Filled bytes ∷ more) left =
    ((fill_bytes (length bytes) from).0 ≡ bytes) × Gave (fill_bytes (length bytes) from).1 more left

-- a generator gave what was drawn since then, in its order
pub record Draws (from left : Stream) (old new : List Drawn) : Type 0 where
  pub more : List Drawn
  pub are : new ≡ old ++ more
  pub gave : Gave from more left

-- the next draws of a generator, one for each place but the first, put the numbers into this order, and leave it so
pub record Orders (from left : Stream) (numbers order : List ℕ) : Type 0 where
  pub draws : List ℕ
  pub count : length draws ≡ length numbers - 1
  pub gave : Gave from (map Long draws) left
  pub is : order ≡ shuffled numbers draws

-- numbers were shuffled so, and each draw was written
pub record Shuffles (from left : Stream) (old new : Journaled) (numbers order : List ℕ) : Type 0 where
  pub orders : Orders from left numbers order
  pub told : new.told ≡ pushed_all old.told (map Draw orders.draws)
  pub state : new.told.state ≡ record old.told.state { draws = orders.draws; drawn = old.told.state.drawn ++ map Long orders.draws }
  pub spare : new.spare + length orders.draws ≡ old.spare
  pub lacked : new.lacked ≡ old.lacked

-- the ready list was drained into a round of this order, and the draws that decided it are before it
pub record Drains (from left : Stream) (old new : Told) (order : List ℕ) : Type 0 where
  pub orders : Orders from left old.state.ready order
  pub told : new ≡ pushed (pushed_all old (map Draw orders.draws)) (Round order)
  pub state : new.state ≡ after (record old.state { draws = orders.draws; drawn = old.state.drawn ++ map Long orders.draws }) (Round order)
