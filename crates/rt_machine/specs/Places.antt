-- The room that a run takes in advance, as a sum by kind of what it owes.
use Rattle.std.specs.Prelude.{◌≡◌, ◌≤◌, ◌<◌, ◌+◌, ◌-◌, ◌*◌, ◌^◌, ℕ, List, [], ◌∷◌, length, Bool, true, false, not, Option, Some, None, is_some}
use Rattle.rt_base.specs.declared.time.TheConstants.{MAX_TIME}
use Rattle.rt_super.specs.Alarms.{AlarmList}
use Rattle.rt_super.specs.Ancestry.{NodeState, TreeRecord, AreEnded}
use Rattle.rt_super.specs.Signals.{SignalRecord}
use Rattle.rt_super.specs.declared.stopper.Stopped.{Stopped}
use Rattle.rt_super.specs.declared.stopper.Stopped.TheVariants.{Waiting, Resolved}
use Rattle.rt_super.specs.declared.signal_group.SignalGroup.{SignalGroup}
use Rattle.rt_super.specs.declared.signal_token.SignalToken.{SignalToken}
use Rattle.rt_model.specs.declared.mark.Mark.{Mark}
use Rattle.rt_model.specs.declared.result.TaskResult.{TaskResult}
use Rattle.rt_model.specs.Rows.{Rows, total}
use Rattle.rt_model.specs.State.{Phase, Blank, Entered, Polling, Halted, Cleaning, Closing, Crashed, Finished, State, Turn}
use Rattle.rt_model.specs.Effects.{is_closing}
pub use Rattle.rt_parts.specs.Room.{ones, open_places, result_places, sender_places}
use Rattle.rt_machine.specs.Told.{Told, Journaled}
use Rattle.rt_machine.specs.Labels.{Labelled}
use Rattle.rt_machine.specs.Groups.{Grouped}

-- what a journal tells, and the turns that were made before a call of the part under way ran out of memory, if one did
pub record Seen : Type 0 where
  pub told : Told
  pub lacked : Option (List Turn)

-- the entries that a run can still write without memory from where it is: the event and the answer of a visit, and the cleanup,
-- the end of node 0, the crash and the finish
abbrev pub places : Phase → ℕ
places Blank = 0
places (Entered task left) = 6
places (Polling task left) = 5
places (Halted task) = 5
places (Cleaning cause) = 3
places (Closing cause) = 2
places (Crashed cause) = 1
places (Finished cause) = 0
places _ = 4

-- the closing of each live node
abbrev pub live_count : List NodeState → ℕ
live_count [] = 0
live_count (x ∷ xs) = ones x.live + live_count xs

-- the end of a task's node, and a wake by its flag where the task was left pending
abbrev pub mark_places : Mark → ℕ
mark_places m = 1 + ones m.left

-- the value of a group, or the giving up of its signaler
abbrev pub group_places : SignalGroup → ℕ
group_places g = ones g.alive

-- the giving up of a signal or a completion, and the wake of who waits by it
abbrev pub token_places : SignalToken → ℕ
token_places t = 1 + ones (is_some t.waits)

abbrev pub signal_places : SignalRecord → ℕ
signal_places r = total group_places r.groups + total token_places r.signals + total token_places r.completions

-- a signal of the shutdown, where there is one
abbrev pub stopped_places : Stopped → ℕ
stopped_places (Waiting signal) = 1
stopped_places (Resolved value) = 0

-- the task that is visited may be left pending
abbrev pub visit_places : Phase → ℕ
visit_places (Entered task left) = 1
visit_places (Polling task left) = 1
visit_places (Halted task) = 1
visit_places _ = 0

-- and beside these: a firing and a wake for each alarm, the end of each running task, and a wake of the root by a panic
abbrev pub promised_by : State → ℕ
promised_by s =
    2 * length s.stood.alarms.alarms
    + length s.running
    + live_count s.stood.nodes.nodes
    + total mark_places s.marks
    + total result_places s.stood.results
    + total result_places s.stood.slots.results
    + total sender_places s.stood.slots.senders
    + signal_places s.stood.signals
    + ones (not s.panicked)
    + visit_places s.phase

-- each number is below this one
abbrev pub AreBelow : ℕ → List ℕ → Type 0
AreBelow bound [] = Unit {0}
AreBelow bound (k ∷ ks) = (k < bound) × AreBelow bound ks

-- how the fields of a machine are those of the state that its journal makes
pub record Stands (journal : Journaled) (time next : ℕ) (root : Option ℕ) (root_left panicked closing : Bool) (tree : TreeRecord) (labels : Labelled) (ready : List ℕ) (ready_spare : ℕ) (alarms : AlarmList) (marks : Rows Mark) (results : Rows TaskResult) (slots : Rows TaskResult) (senders : Rows (Unit {0})) (groups : Grouped) (promised : ℕ) : Type 0 where
  pub clock_is : journal.told.state.clock ≡ record { time = time; fixed = journal.told.begin }
  pub numbers_are : journal.told.state.numbers ≡ record { first = journal.told.begin.first; next = next }
  pub root_is : journal.told.state.root ≡ root
  pub left_is : journal.told.state.root_left ≡ root_left
  pub panicked_is : journal.told.state.panicked ≡ panicked
  pub nodes_are : journal.told.state.stood.nodes ≡ tree
  pub labels_are : journal.told.state.labels ≡ labels.items
  pub closing_is : closing ≡ is_closing journal.told.state.phase
  pub ready_is : journal.told.state.ready ≡ ready
  pub alarms_are : journal.told.state.stood.alarms ≡ alarms
  pub marks_are : journal.told.state.marks ≡ marks.items
  pub results_are : journal.told.state.stood.results ≡ results.items
  pub slots_are : journal.told.state.stood.slots ≡ record { results = slots.items; senders = senders.items; count = slots.next }
  pub signals_are : journal.told.state.stood.signals ≡ groups.told
  pub stop_is : journal.told.state.stood.stop ≡ groups.stop
  pub nobody_met : groups.woken ≡ []
  pub none_announced : journal.told.state.announced ≡ []
  pub none_drawn : journal.told.state.draws ≡ []
  pub none_owed : journal.told.state.owed ≡ []
  -- after the cleanup has begun every node is ended
  pub all_ended : closing ≡ true → AreEnded journal.told.state.stood.nodes
  -- each node has its label, and each task its places
  pub label_next : labels.count ≡ length tree.nodes
  pub mark_next : marks.next ≡ next
  pub result_next : results.next ≡ next
  pub sender_next : senders.next ≡ slots.next
  pub promised_is : promised_by journal.told.state ≤ promised
  pub room : promised + places journal.told.state.phase ≤ journal.spare
  -- whoever is woken by any of this has a place in the ready list
  pub ready_room : promised ≤ ready_spare
  -- the greatest number is no task's
  pub fit : AreBelow (2 ^ 64 - 1) journal.told.state.running
  pub within : journal.told.begin.start ≤ MAX_TIME

-- a caller's number; the maker, and a root that was not taken in, have the last one
abbrev pub number_of : Option ℕ → ℕ
number_of None = 2 ^ 64 - 1
number_of (Some task) = task
