-- What a run is: a list of entries.
use Rattle.std.specs.Prelude.{◌≡◌, ◌≢◌, ◌⊎◌, List, [], true}
use Rattle.rt_audit.specs.declared.finish.FinishCause.{FinishCause}
use Rattle.rt_audit.specs.declared.finish.FinishCause.TheVariants.{NoMemory}
use Rattle.rt_audit.specs.declared.entry.Entry.{Entry}
use Rattle.rt_model.specs.declared.begin.Begin.{Begin}
use Rattle.rt_model.specs.State.{State, Finished, begun}
use Rattle.rt_model.specs.Effects.{after_all}
use Rattle.rt_model.specs.Rules.{IsLawful}
use Rattle.rt_model.specs.Tied.{Steps, Value, nothing, IsTied}

-- from this beginning, a run of these steps that ends for this cause, in this state and with these values
pub record IsRun {A O : Type 0} (p : Steps A O) (begin : Begin) (x : List Entry) (cause : FinishCause) (end : State) (value : Value A O) : Type 0 where
  -- each entry may come at its place. The first is the start
  pub lawful : IsLawful (begun begin) x
  -- each entry has one effect
  pub reaches : after_all (begun begin) x ≡ end
  pub ends : end.phase ≡ Finished cause
  -- a run that runs out of memory is cut off
  pub caused : cause ≢ NoMemory
  -- the maker, and each task in its polls and its end, makes the calls of its own steps and gives their answer
  pub tied : IsTied p (begun begin) nothing x value
  pub whole : value.whole ≡ true

-- a run that was cut off since it was out of memory. Of a part that ran out of it a front is tied; the values of the others are
-- as they were
pub record IsCutOff {A O : Type 0} (p : Steps A O) (begin : Begin) (x : List Entry) : Type 0 where
  pub value : Value A O
  pub lawful : IsLawful (begun begin) x
  pub ends : (after_all (begun begin) x).phase ≡ Finished NoMemory
  pub tied : IsTied p (begun begin) nothing x value

-- nothing of the run was written, or it was cut off
abbrev pub IsInterrupted : {A O : Type 0} → Steps A O → Begin → List Entry → Type 0
IsInterrupted p begin x = (x ≡ []) ⊎ IsCutOff p begin x

-- a run failed so
abbrev pub FailedBy : {A O : Type 0} → Steps A O → Begin → List Entry → FinishCause → Type 0
FailedBy p begin x NoMemory = IsInterrupted p begin x
FailedBy {A = A} {O = O} p begin x cause = (end : State) × (value : Value A O) × IsRun p begin x cause end value

-- each run from this beginning completes. One that is out of memory, which may come at any time, is no run
abbrev pub IsValidInput : {A O : Type 0} → Steps A O → Begin → Type 0
IsValidInput {A = A} {O = O} p begin =
    (entries : List Entry) (cause : FinishCause) (end : State) (value : Value A O) → IsRun p begin entries cause end value → cause ≡ Rattle.rt_audit.specs.declared.finish.FinishCause.TheVariants.Completed
