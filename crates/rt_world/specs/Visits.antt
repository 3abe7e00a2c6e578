-- What a visit leaves, and what the visits of a round leave.
use Rattle.std.specs.Prelude.{◌≡◌, ℕ, List, [], true, Option, Some, None, Result, Ok, Err}
use Rattle.rand_core.specs.Stream.{Stream}
use Rattle.rt_audit.specs.declared.finish.FinishCause.{FinishCause}
use Rattle.rt_audit.specs.declared.finish.FinishCause.TheVariants.{Completed, NoMemory}
use Rattle.rt_model.specs.State.{State, Visiting, Ending, Over}
use Rattle.rt_model.specs.Causes.{from_running}
use Rattle.rt_model.specs.Effects.{left_of}
use Rattle.rt_model.specs.Tied.{Steps}
use Rattle.rt_machine.specs.Ends.{open_in}
use Rattle.rt_machine.specs.Steps.{StandsFor}
use Rattle.rt_world.specs.World.{World, Writes}
use Rattle.rt_world.specs.Follows.{Agrees, AgreesAtLeast}
use Rattle.rt_world.specs.declared.visits.Turnout.{Turnout}
use Rattle.rt_world.specs.declared.visits.Turnout.TheVariants.{Stays, Gave, Ends}

-- what visits leave as it is, and that the generator gave what was drawn in them
pub record Passes {A O G : Type 0} (stream : G → Stream) (old new : World A O G) : Type 0 where
  pub begin : new.told.begin ≡ old.told.begin
  pub given : new.told.given ≡ old.told.given
  pub clock : new.told.state.clock ≡ old.told.state.clock
  pub root : new.told.state.root ≡ old.told.state.root
  pub out : new.out ≡ None
  pub writes : Writes stream old new

-- no call of a part is under way
pub record IsFresh {A O G : Type 0} (w : World A O G) : Type 0 where
  pub calls : w.told.calls ≡ []
  pub turns : w.told.state.turns ≡ []
  pub lacked : w.lacked ≡ None

-- where the run is after the poll of a task
abbrev pub TurnoutStands : {O : Type 0} → State → ℕ → List ℕ → Result (Turnout O) FinishCause → Type 0
TurnoutStands s task left (Ok Stays) = s.phase ≡ Visiting left
TurnoutStands s task left (Ok (Gave output)) = s.phase ≡ Over Completed
TurnoutStands s task left (Ok (Ends own)) = (s.phase ≡ Ending task own left) × (open_in own ≡ 0)
TurnoutStands s task left (Err cause) = StandsFor s cause

-- the root's output
abbrev pub output_of : {O : Type 0} → Turnout O → Option O
output_of (Gave output) = Some output
output_of turnout = None

-- where the run is after a visit: the round goes on, or the root gave its output, or the run ends
abbrev pub StandsAfter : {O : Type 0} → State → List ℕ → Result (Option O) FinishCause → Type 0
StandsAfter s left (Ok None) = s.phase ≡ Visiting left
StandsAfter s left (Ok (Some output)) = s.phase ≡ Over Completed
StandsAfter s left (Err cause) = StandsFor s cause

-- where it is after the visits of a round
abbrev pub RoundStands : {O : Type 0} → State → Result (Option O) FinishCause → Type 0
RoundStands s (Ok None) = (s.phase ≡ Visiting (left_of s.phase)) × (from_running s.running (left_of s.phase) ≡ [])
RoundStands s (Ok (Some output)) = s.phase ≡ Over Completed
RoundStands s (Err cause) = StandsFor s cause

-- how far the journal follows the steps where the run ends without an output
abbrev pub CauseAgrees : {A O G : Type 0} → Steps A O → World A O G → FinishCause → Type 0
CauseAgrees p w NoMemory = AgreesAtLeast p w None
CauseAgrees p w cause = Agrees p true w None

-- how far it follows them after a visit
abbrev pub AgreesAfter : {A O G : Type 0} → Steps A O → World A O G → Result (Option O) FinishCause → Type 0
AgreesAfter p w (Ok output) = Agrees p true w output
AgreesAfter p w (Err cause) = CauseAgrees p w cause

abbrev pub TurnoutAgrees : {A O G : Type 0} → Steps A O → World A O G → Result (Turnout O) FinishCause → Type 0
TurnoutAgrees p w (Ok turnout) = Agrees p true w (output_of turnout)
TurnoutAgrees p w (Err cause) = CauseAgrees p w cause

-- after the end of a task in its visit, which may have run out of memory
abbrev pub EndedAgrees : {A O G : Type 0} → Steps A O → World A O G → Result (Unit {0}) FinishCause → Type 0
EndedAgrees p w (Ok done) = Agrees p true w None
EndedAgrees p w (Err cause) = AgreesAtLeast p w None

-- from one world to another, the journal goes on following the steps
abbrev pub GoesOn : {A O G : Type 0} → Steps A O → World A O G → World A O G → Type 0
GoesOn p old new = Agrees p true old None → Agrees p true new None
