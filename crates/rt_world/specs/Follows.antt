-- How the journal of a world follows the steps of its tasks and its maker.
use Rattle.std.specs.Prelude.{◌≡◌, ◌⊎◌, Bool, true, false, Option, Some, None}
use Rattle.rt_model.specs.State.{begun}
use Rattle.rt_model.specs.Effects.{after_all}
use Rattle.rt_model.specs.Turns.{Held}
use Rattle.rt_model.specs.Walk.{Walks, Fronts, Breaks}
use Rattle.rt_model.specs.Tied.{Steps, Value, nothing, IsTied}
use Rattle.rt_machine.specs.Told.{Told, own}
use Rattle.rt_world.specs.World.{World}

-- its entries are tied to the steps, and leave these values
pub record Follows {A O : Type 0} (p : Steps A O) (t : Told) (v : Value A O) : Type 0 where
  pub state : t.state ≡ after_all (begun t.begin) (own t)
  pub tied : IsTied p (begun t.begin) nothing (own t) v

-- the values of a world, beside what it doesn't hold itself
abbrev pub value_of : {A O G : Type 0} → World A O G → Option O → Option A → Bool → Value A O
value_of w output unmade whole = record { held = w.held; output = output; panic = w.panic; unmade = unmade; whole = whole }

-- a root was made and not taken in
abbrev pub AgreesWith : {A O G : Type 0} → Steps A O → Bool → World A O G → Option O → Option A → Type 0
AgreesWith p whole w output unmade = Follows p w.told (value_of w output unmade whole)

abbrev pub Agrees : {A O G : Type 0} → Steps A O → Bool → World A O G → Option O → Type 0
Agrees p whole w output = AgreesWith p whole w output None

-- a part may have run out of memory
abbrev pub AgreesAtLeast : {A O G : Type 0} → Steps A O → World A O G → Option O → Type 0
AgreesAtLeast p w output = (whole : Bool) × Agrees p whole w output

-- as before, unless a part has run out of memory
abbrev pub still : (lacked : Bool) → Bool → Bool
still true whole = false
still false whole = whole

-- the values before the maker's calls
abbrev pub unmade_of : {A O : Type 0} → Held A O → Value A O
unmade_of before = record { held = before; output = None; panic = None; unmade = None; whole = true }

-- the maker has made its calls, and then this root
pub record IsMade {A O G : Type 0} (p : Steps A O) (w : World A O G) (root : A) : Type 0 where
  pub before : Held A O
  pub follows : Follows p w.told (unmade_of before)
  pub walks : Walks (p.first w.told.state.clock.time) before w.told.state.turns w.told.state.stood tt root w.held

-- the maker has run out of memory, or said so itself
pub record IsUnmade {A O G : Type 0} (p : Steps A O) (w : World A O G) (unmade : Option A) : Type 0 where
  pub before : Held A O
  pub follows : Follows p w.told (unmade_of before)
  pub breaks : Breaks (p.first w.told.state.clock.time) before w.told.state.turns w.told.state.stood w.held ⊎ (Fronts (p.first w.told.state.clock.time) before w.told.state.turns w.held × (unmade ≡ None))

-- the root of a maker that ran out of memory is free
abbrev pub MakingAgrees : {A O G : Type 0} → Steps A O → Bool → World A O G → Option A → Type 0
MakingAgrees p true w (Some root) = IsMade p w root
MakingAgrees p true w None = ⊥
MakingAgrees p false w unmade = IsUnmade p w unmade
