-- What the end of a run leaves.
use Rattle.std.specs.Prelude.{◌≡◌, ◌⊎◌, [], Bool, Option, Some, None}
use Rattle.rand_core.specs.Stream.{Stream}
use Rattle.rt_audit.specs.declared.finish.FinishCause.{FinishCause}
use Rattle.rt_audit.specs.declared.finish.FinishCause.TheVariants.{NoMemory}
use Rattle.rt_model.specs.State.{State, Closing}
use Rattle.rt_model.specs.Causes.{reached}
use Rattle.rt_model.specs.Effects.{cause_of}
use Rattle.rt_model.specs.Tied.{Steps}
use Rattle.rt_world.specs.World.{World, Writes}
use Rattle.rt_world.specs.Follows.{AgreesWith, still}

-- a cleanup is under way, and no call of it
pub record IsClosing {A O G : Type 0} (w : World A O G) : Type 0 where
  pub phase : w.told.state.phase ≡ Closing (cause_of w.told.state.phase)
  pub calls : w.told.calls ≡ []
  pub turns : w.told.state.turns ≡ []
  pub out : w.out ≡ None
  pub lacked : w.lacked ≡ None

-- what the ends of tasks leave as it is
pub record Ends {A O G : Type 0} (old new : World A O G) : Type 0 where
  pub closing : IsClosing new
  pub phase : new.told.state.phase ≡ old.told.state.phase
  pub begin : new.told.begin ≡ old.told.begin
  pub given : new.told.given ≡ old.told.given
  pub clock : new.told.state.clock ≡ old.told.state.clock
  pub root : new.told.state.root ≡ old.told.state.root

-- what the cleanup of a run leaves as it is
pub record Seals {A O G : Type 0} (stream : G → Stream) (old new : World A O G) : Type 0 where
  pub begin : new.told.begin ≡ old.told.begin
  pub given : new.told.given ≡ old.told.given
  pub clock : new.told.state.clock ≡ old.told.state.clock
  pub writes : Writes stream old new
  pub tasks : new.held.tasks ≡ []

-- the run has reached this cause, unless it ran out of memory
abbrev pub Reaches : State → FinishCause → Type 0
Reaches s NoMemory = Unit {0}
Reaches s cause = reached s ≡ Some cause

-- a maker that made no root ran out of memory
abbrev pub Makes : {A : Type 0} → Option A → FinishCause → Type 0
Makes None cause = cause ≡ NoMemory
Makes (Some root) cause = Unit {0}

-- the run is finished with the cause that it reached, or as one that ran out of memory
abbrev pub IsFinal : FinishCause → FinishCause → Type 0
IsFinal cause final = (final ≡ cause) ⊎ (final ≡ NoMemory)

-- the journal follows the steps to the end. Where a part ran out of memory the run ends for that
pub record EndsFor {A O G : Type 0} (p : Steps A O) (new : World A O G) (final : FinishCause) (output : Option O) (whole : Bool) : Type 0 where
  pub last : Bool
  pub agrees : AgreesWith p last new output None
  pub kept : (last ≡ whole) ⊎ (final ≡ NoMemory)

-- as before, unless the end of a task ran out of memory
abbrev pub unless : Option Bool → Bool → Bool
unless None whole = whole
unless (Some lacked) whole = still lacked whole
