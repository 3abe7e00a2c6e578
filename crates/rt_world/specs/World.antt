-- What contracts see of a world.
use Rattle.std.specs.Prelude.{◌≡◌, ◌++◌, ℕ, List, Option}
use Rattle.rand_core.specs.Stream.{Stream}
use Rattle.rt_audit.specs.declared.entry.Entry.{Entry}
use Rattle.rt_model.specs.State.{Turn}
use Rattle.rt_model.specs.Turns.{Held}
use Rattle.rt_machine.specs.Told.{Told, own}
use Rattle.rt_machine.specs.Draws.{Draws}

-- what its journal tells; the turns that were made before a call of the part under way ran out of memory, if one did; the
-- values that it holds; the text of a panic that is kept; whose state is out; and its generator
pub record World (A O G : Type 0) : Type 0 where
  pub told : Told
  pub lacked : Option (List Turn)
  pub held : Held A O
  pub panic : Option (List ℕ)
  pub out : Option ℕ
  pub rng : G

-- further entries come after these
pub record Front (old new : List Entry) : Type 0 where
  pub more : List Entry
  pub are : new ≡ old ++ more

-- the entries so far are a front of those of the run
unfoldable pub IsFront : Told → Told → Type 0
IsFront old new = Front (own old) (own new)

-- from the one world to the other its generator gave what was drawn
unfoldable pub Drew : {A O G : Type 0} → (G → Stream) → World A O G → World A O G → Type 0
Drew stream old new = Draws (stream old.rng) (stream new.rng) old.told.state.drawn new.told.state.drawn

-- further entries come after those so far, and the generator gave what was drawn in them
unfoldable pub Writes : {A O G : Type 0} → (G → Stream) → World A O G → World A O G → Type 0
Writes stream old new = IsFront old.told new.told × Drew stream old new
