-- What a clock step leaves.
use Rattle.std.specs.Prelude.{◌≡◌, ◌≤◌, Some, Bool, true, false, Result, Ok, Err}
use Rattle.rt_model.specs.State.{State, Phase, Making, Turning}
use Rattle.rt_model.specs.Causes.{reached}
use Rattle.rt_model.specs.Rules.{MayRound, MayClose}
use Rattle.rt_machine.specs.Told.{Told, Quietly}
use Rattle.rt_audit.specs.declared.finish.FinishCause.{FinishCause}
use Rattle.rt_audit.specs.declared.finish.FinishCause.TheVariants.{NoMemory, Completed}

-- the cleanup may begin here, and not in place of the maker
pub record IsCut (phase : Phase) : Type 0 where
  pub closes : MayClose phase
  pub made : phase ≡ Making → ⊥

-- the cleanup may begin, and the run has reached this cause, unless it ran out of memory. A completed run has failed for none
abbrev pub StandsFor : State → FinishCause → Type 0
StandsFor s NoMemory = IsCut s.phase
StandsFor s Completed = ⊥
StandsFor s cause = IsCut s.phase × (reached s ≡ Some cause)

-- what clock steps leave as it is
pub record Turns (old new : Told) : Type 0 where
  pub quiet : Quietly old new
  pub begin : new.begin ≡ old.begin
  pub given : new.given ≡ old.given
  pub fixed : new.state.clock.fixed ≡ old.state.clock.fixed
  pub time : old.state.clock.time ≤ new.state.clock.time
  pub root : new.state.root ≡ old.state.root
  pub running : new.state.running ≡ old.state.running
  pub numbers : new.state.numbers ≡ old.state.numbers
  pub results : new.state.stood.results ≡ old.state.stood.results
  pub slots : new.state.stood.slots ≡ old.state.stood.slots

-- where the run is after a clock step: a round may begin, or the run ends
abbrev pub StepStands : State → Result (Unit {0}) FinishCause → Type 0
StepStands s (Ok step) = (s.phase ≡ Turning) × MayRound Turning s
StepStands s (Err cause) = StandsFor s cause

-- where it is after a turn of one: whether somebody is ready
abbrev pub TurnStands : State → Result Bool FinishCause → Type 0
TurnStands s (Ok true) = (s.phase ≡ Turning) × MayRound Turning s
TurnStands s (Ok false) = s.phase ≡ Turning
TurnStands s (Err cause) = StandsFor s cause
