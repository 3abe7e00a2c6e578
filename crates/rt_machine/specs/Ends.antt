-- The entries by which a task ends within its visit, and what they do to its result.
use Rattle.std.specs.Prelude.{◌≡◌, ℕ, List, [], ◌∷◌, Bool, true, false, Option, Some, None, not, ◌&&◌, if◌then◌else◌, is_none, unwrap_or}
use Rattle.rt_audit.specs.declared.entry.Entry.{Entry}
use Rattle.rt_audit.specs.declared.entry.Entry.TheVariants.{NodeEnd, Wake, Cleanup}
use Rattle.rt_super.specs.Ancestry.{TreeRecord, is_ended}
use Rattle.rt_model.specs.declared.result.Outcome.{Outcome}
use Rattle.rt_model.specs.declared.result.Outcome.TheVariants.{Closed}
use Rattle.rt_model.specs.declared.result.TaskResult.{TaskResult}
use Rattle.rt_model.specs.Results.{waiting, with_outcome}
use Rattle.rt_model.specs.Lists.{without_number, those}
use Rattle.rt_model.specs.State.{State, Visiting}
use Rattle.rt_model.specs.Effects.{left_of, leaves, marks_ended, is_panic}
use Rattle.rt_machine.specs.Told.{Told, pushed_all}
pub use Rattle.rt_parts.specs.Room.{open_in, waiter_in}
use Rattle.rt_machine.specs.Places.{Seen}

-- the end of a node, or a wake
abbrev pub is_calm : Entry → Bool
is_calm (NodeEnd node) = true
is_calm (Wake task) = true
is_calm _ = false

abbrev pub AreCalm : List Entry → Type 0
AreCalm [] = Unit {0}
AreCalm (e ∷ es) = (is_calm e ≡ true) × AreCalm es

-- entries were added that end nodes and wake
pub record Calmly (old new : Told) : Type 0 where
  pub entries : List Entry
  pub calm : AreCalm entries
  pub is : new ≡ pushed_all old entries

-- a cleanup ends node 0, where that hasn't ended
abbrev pub cleanup_by : Bool → List Entry
cleanup_by true = Cleanup ∷ []
cleanup_by false = Cleanup ∷ NodeEnd 0 ∷ []

abbrev pub cleanup_entries : TreeRecord → List Entry
cleanup_entries nodes = cleanup_by (is_ended nodes 0)

-- the results when a task ends: it leaves its own, or none where nothing of it is left
abbrev pub ended_results : Option Outcome → Bool → ℕ → List (ℕ × TaskResult) → List (ℕ × TaskResult)
ended_results (Some outcome) settles task rs = with_outcome outcome task rs
ended_results None true task rs = with_outcome Closed task rs
ended_results None false task rs = rs

-- and who is woken
abbrev pub ended_waiting : Option Outcome → Bool → Option TaskResult → List ℕ
ended_waiting (Some outcome) settles r = waiting r
ended_waiting None true r = waiting r
ended_waiting None false r = []

-- whom a panic wakes that is kept now: the root, where it was left pending once
abbrev pub panic_wakes : State → Option Outcome → List ℕ
panic_wakes s own = if s.root_left && not s.panicked && is_panic own && not s.clock.fixed.catch then those s.root else []

-- a task has left its visit, or its node is to end next: what is there, but for the tree and what is queued
pub record Left (task : ℕ) (own : Option Outcome) (settles : Bool) (old new : Seen) : Type 0 where
  pub phase : new.told.state.phase ≡ leaves settles task own (left_of old.told.state.phase)
  pub begin : new.told.begin ≡ old.told.begin
  pub given : new.told.given ≡ old.told.given
  pub clock : new.told.state.clock ≡ old.told.state.clock
  pub root : new.told.state.root ≡ old.told.state.root
  pub numbers : new.told.state.numbers ≡ old.told.state.numbers
  pub running : new.told.state.running ≡ without_number task old.told.state.running
  pub marks : new.told.state.marks ≡ marks_ended settles task old.told.state.marks
  pub results : new.told.state.stood.results ≡ ended_results own settles task old.told.state.stood.results
  pub slots : new.told.state.stood.slots ≡ old.told.state.stood.slots
  pub lacked : new.lacked ≡ old.lacked

-- a task that was to leave has left its visit
pub record Gone (task : ℕ) (own : Option Outcome) (old new : Seen) : Type 0 where
  pub phase : new.told.state.phase ≡ Visiting (left_of old.told.state.phase)
  pub begin : new.told.begin ≡ old.told.begin
  pub given : new.told.given ≡ old.told.given
  pub clock : new.told.state.clock ≡ old.told.state.clock
  pub root : new.told.state.root ≡ old.told.state.root
  pub numbers : new.told.state.numbers ≡ old.told.state.numbers
  pub running : new.told.state.running ≡ old.told.state.running
  pub results : new.told.state.stood.results ≡ ended_results None (is_none own) task old.told.state.stood.results
  pub slots : new.told.state.stood.slots ≡ old.told.state.stood.slots
  pub lacked : new.lacked ≡ old.lacked

-- the visit of a task has ended with it
pub record Visited (task : ℕ) (own : Option Outcome) (old new : Seen) : Type 0 where
  pub phase : new.told.state.phase ≡ Visiting (left_of old.told.state.phase)
  pub begin : new.told.begin ≡ old.told.begin
  pub given : new.told.given ≡ old.told.given
  pub clock : new.told.state.clock ≡ old.told.state.clock
  pub root : new.told.state.root ≡ old.told.state.root
  pub numbers : new.told.state.numbers ≡ old.told.state.numbers
  pub running : new.told.state.running ≡ without_number task old.told.state.running
  pub results : new.told.state.stood.results ≡ with_outcome (unwrap_or own Closed) task old.told.state.stood.results
  pub slots : new.told.state.stood.slots ≡ old.told.state.stood.slots
  pub lacked : new.lacked ≡ old.lacked
