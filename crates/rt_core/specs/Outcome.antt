-- What a run has come to.
use Rattle.std.specs.Prelude.{◌≡◌, ◌≤◌, ◌⊎◌, ◌++◌, List, [], Bool, true, Option, Some, None, Result, Ok, Err}
use Rattle.rand_core.specs.Stream.{Stream}
use Rattle.rt_audit.specs.declared.entry.Entry.{Entry}
use Rattle.rt_audit.specs.Journal.{digest_of}
use Rattle.rt_audit.specs.declared.finish.FinishCause.{FinishCause}
use Rattle.rt_audit.specs.declared.finish.FinishCause.TheVariants.{Completed, TaskPanicked, NoMemory}
use Rattle.rt_model.specs.declared.begin.Begin.{Begin}
use Rattle.rt_model.specs.State.{State, Finished, begun}
use Rattle.rt_model.specs.Digests.{AreDigested}
use Rattle.rt_model.specs.Effects.{after_all}
use Rattle.rt_model.specs.Rules.{AreDrawn}
use Rattle.rt_model.specs.Tied.{Steps, Value}
use Rattle.rt_model.specs.Run.{IsRun, FailedBy}
use Rattle.rt_core.specs.Failures.{finish_of}
use Rattle.rt_core.specs.declared.run_error.RunError.{RunError}
use Rattle.rt_core.specs.declared.run_error.RunError.TheVariants.{TaskPanicked as HasPanicked}
use Rattle.rt_machine.specs.Draws.{Gave}
use Rattle.rt_world.specs.World.{World, Drew}
use Rattle.rt_world.specs.Follows.{Agrees}
use Rattle.rt_core.specs.Starting.{Starting, Kept}

-- what a run keeps at its end
abbrev pub kept_of : {G : Type 0} → State → List Entry → G → Kept G
kept_of end journal rng = record {
  time = end.clock.time;
  deadline = end.clock.fixed.deadline;
  cycle = end.clock.fixed.cycle;
  catch = end.clock.fixed.catch;
  journal = journal;
  rng = rng;
}

-- what is so of the entries of every run that began so, however it ended, where the generator is left so: each round visits the ready
-- list as the draws before it shuffle it, these and what the maker and the tasks drew are the next that the generator gives, and each
-- auditor's answer is the digest of all events before it
pub record Facts {G : Type 0} (stream : G → Stream) (s : Starting G) (x : List Entry) (left : Stream) : Type 0 where
  pub drawn : AreDrawn (begun s.begin) x
  pub draws : Gave (stream s.rng) (after_all (begun s.begin) x).drawn left
  pub digested : AreDigested (digest_of s.given) x

-- each run from this beginning, with what its generator gives, completes. One that is out of memory, which may come at any time, is no run
abbrev pub IsValid : {A O G : Type 0} → (G → Stream) → Steps A O → Starting G → Type 0
IsValid {A = A} {O = O} stream p s =
    (x : List Entry) (cause : FinishCause) (end : State) (value : Value A O) (left : Stream) → IsRun p s.begin x cause end value → Facts stream s x left → cause ≡ Completed

-- a run from this beginning gave this output, and this is kept of it, the generator as the draws left it
pub record Completes {A O G : Type 0} (stream : G → Stream) (p : Steps A O) (s : Starting G) (output : O) (kept : Kept G) : Type 0 where
  pub entries : List Entry
  pub end : State
  pub value : Value A O
  pub run : IsRun p s.begin entries Completed end value
  pub gives : value.output ≡ Some output
  pub keeps : kept ≡ kept_of end (s.given ++ entries) kept.rng
  pub facts : Facts stream s entries (stream kept.rng)

-- a run failed so. Where it ended by a panic, this was its text
abbrev pub FailedFor : {A O : Type 0} → Steps A O → Begin → List Entry → RunError → Type 0
FailedFor {A = A} {O = O} p begin x (HasPanicked text) =
    (end : State) × (value : Value A O) × IsRun p begin x TaskPanicked end value × (value.panic ≡ Some text)
FailedFor p begin x error = FailedBy p begin x (finish_of error)

-- a run from this beginning failed so, and its entries follow those that were given
pub record Fails {A O G : Type 0} (stream : G → Stream) (p : Steps A O) (s : Starting G) (journal : List Entry) (error : RunError) : Type 0 where
  pub entries : List Entry
  pub left : Stream
  pub extends : journal ≡ s.given ++ entries
  pub failed : FailedFor p s.begin entries error
  pub facts : Facts stream s entries left

-- a world that can go on: no task is out of it, no call has run out of memory, no panic is kept, and a cycle takes time
pub record IsReady {A O G : Type 0} (w : World A O G) : Type 0 where
  pub none_out : w.out ≡ None
  pub unmarked : w.lacked ≡ None
  pub calm : w.panic ≡ None
  pub cycle : 1 ≤ w.told.state.clock.fixed.cycle

-- the run under way is finished for this cause, as the one that began so, and the generator gave what was drawn. No task is left
pub record Leaves {A O G : Type 0} (stream : G → Stream) (old new : World A O G) (cause : FinishCause) : Type 0 where
  pub phase : new.told.state.phase ≡ Finished cause
  pub given : new.told.given ≡ old.told.given
  pub begin : new.told.begin ≡ old.told.begin
  pub fixed : new.told.state.clock.fixed ≡ old.told.state.clock.fixed
  pub drew : Drew stream old new
  pub tasks : new.held.tasks ≡ []

-- a world at the end of its run
pub record Ended {A O G : Type 0} (p : Steps A O) (w : World A O G) (cause : FinishCause) (output : Option O) : Type 0 where
  pub whole : Bool
  pub last : Option O
  pub agrees : Agrees p whole w last
  pub kept : ((whole ≡ true) × (last ≡ output)) ⊎ (cause ≡ NoMemory)

abbrev pub OutcomeEnds : {A O G : Type 0} → Steps A O → World A O G → Result O FinishCause → Type 0
OutcomeEnds p w (Ok output) = Ended p w Completed (Some output)
OutcomeEnds p w (Err cause) = Ended p w cause None

abbrev pub cause_of_outcome : {O : Type 0} → Result O FinishCause → FinishCause
cause_of_outcome (Ok output) = Completed
cause_of_outcome (Err cause) = cause
