-- What the rounds of a run leave.
use Rattle.std.specs.Prelude.{◌≡◌, ◌⊎◌, ℕ, List, true, Some, None, Result, Ok, Err}
use Rattle.rand_core.specs.Stream.{Stream}
use Rattle.rt_audit.specs.declared.finish.FinishCause.{FinishCause}
use Rattle.rt_audit.specs.declared.finish.FinishCause.TheVariants.{Completed}
use Rattle.rt_model.specs.State.{State, Between, Turning, Over}
use Rattle.rt_model.specs.Rules.{MayRound}
use Rattle.rt_model.specs.Tied.{Steps}
use Rattle.rt_machine.specs.Draws.{Drains}
use Rattle.rt_machine.specs.Steps.{StandsFor}
use Rattle.rt_machine.specs.Told.{Told}
use Rattle.rt_world.specs.World.{World, IsFront, Writes}
use Rattle.rt_world.specs.Follows.{Agrees}
use Rattle.rt_world.specs.Visits.{CauseAgrees}

-- what rounds and clock steps leave as it is, and what they draw
pub record Runs {A O G : Type 0} (stream : G → Stream) (old new : World A O G) : Type 0 where
  pub begin : new.told.begin ≡ old.told.begin
  pub given : new.told.given ≡ old.told.given
  pub writes : Writes stream old new
  pub fixed : new.told.state.clock.fixed ≡ old.told.state.clock.fixed
  pub root : new.told.state.root ≡ old.told.state.root
  pub out : new.out ≡ None

-- a round was drained in this order, and its visits came after it
pub record Begins {A O G : Type 0} (stream : G → Stream) (old new : World A O G) (order : List ℕ) : Type 0 where
  pub drained : Told
  pub left : Stream
  pub drains : Drains (stream old.rng) left old.told drained order
  pub front : IsFront drained new.told

-- a round may begin, once the deadline was tested
abbrev pub StandsBetween : State → Type 0
StandsBetween s = (s.phase ≡ Between) ⊎ ((s.phase ≡ Turning) × MayRound Turning s)

-- where the run is when its rounds have ended
abbrev pub EndStands : {O : Type 0} → State → Result O FinishCause → Type 0
EndStands s (Ok output) = s.phase ≡ Over Completed
EndStands s (Err cause) = StandsFor s cause

abbrev pub EndAgrees : {A O G : Type 0} → Steps A O → World A O G → Result O FinishCause → Type 0
EndAgrees p w (Ok output) = Agrees p true w (Some output)
EndAgrees p w (Err cause) = CauseAgrees p w cause
