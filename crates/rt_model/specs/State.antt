-- What a run is at a moment, as its journal tells it: a product of parts, each moved by entries on its own.
use Rattle.std.specs.Prelude.{ℕ, List, [], ◌∷◌, Option, None, Bool, false}
use Rattle.rt_super.specs.Alarms.{AlarmList, no_alarms}
use Rattle.rt_super.specs.Ancestry.{TreeRecord, first_record}
use Rattle.rt_super.specs.Signals.{SignalRecord, StopRecord}
use Rattle.rt_audit.specs.declared.call.Call.{Call}
use Rattle.rt_audit.specs.declared.reply.CallReply.{CallReply}
use Rattle.rt_audit.specs.declared.finish.FinishCause.{FinishCause}
use Rattle.rt_model.specs.declared.begin.Begin.{Begin}
use Rattle.rt_model.specs.declared.mark.Mark.{Mark}
use Rattle.rt_model.specs.declared.result.Outcome.{Outcome}
use Rattle.rt_model.specs.declared.result.TaskResult.{TaskResult}
use Rattle.rt_model.specs.Draws.{Drawn}
use Rattle.rt_model.specs.Slots.{Slotted, no_slots}
use Rattle.rt_model.specs.Signals.{shutdown_alone, no_stop}

-- the phase of the run, which decides what may come next
pub data Phase : Type 0 where
  -- before its start
  Blank : Phase
  -- the maker of the root makes its calls
  Making : Phase
  -- before a round
  Between : Phase
  -- in a round, with these numbers left to visit
  Visiting : (left : List ℕ) → Phase
  -- a visit has begun, and its event is to come
  Entered : (task : ℕ) → (left : List ℕ) → Phase
  -- in the poll of a task
  Polling : (task : ℕ) → (left : List ℕ) → Phase
  -- the root is visited, and a panic is kept: its answer comes next
  Halted : (task : ℕ) → Phase
  -- a task ends within its visit. It may have finished, and then its result becomes this
  Ending : (task : ℕ) → (result : Option Outcome) → (left : List ℕ) → Phase
  -- the state of a task is ended, and its node ends next
  Leaving : (task : ℕ) → (result : Option Outcome) → (left : List ℕ) → Phase
  -- in a clock step
  Turning : Phase
  -- the root is finished, or a poll ran out of memory
  Over : (cause : FinishCause) → Phase
  -- the cleanup has begun, and node 0 ends next. Without a cause the run was cut off
  Cleaning : (cause : Option FinishCause) → Phase
  -- node 0 has ended, and the tasks end one by one
  Closing : (cause : Option FinishCause) → Phase
  Crashed : (cause : Option FinishCause) → Phase
  Finished : (cause : FinishCause) → Phase

-- the clock: the time in nanoseconds since the epoch, and what the start fixed
pub record Clock : Type 0 where
  pub time : ℕ
  pub fixed : Begin

-- the first and the next task number of this run
pub record Numbers : Type 0 where
  pub first : ℕ
  pub next : ℕ

-- an event that is before its call
pub record Announced : Type 0 where
  pub label : List ℕ
  pub fields : List (List ℕ)

-- the parts that calls read and move
pub record Stood : Type 0 where
  pub alarms : AlarmList
  pub nodes : TreeRecord
  -- the results that were not given up, by their tasks
  pub results : List (ℕ × TaskResult)
  pub slots : Slotted
  -- the groups of signals, and the shutdown, whose group is one of them
  pub signals : SignalRecord
  pub stop : StopRecord

-- a call with its reply, who made it, and what was there when it was made
pub record Turn : Type 0 where
  pub by : Option ℕ
  pub call : Call
  pub reply : CallReply
  pub stood : Stood

pub record State : Type 0 where
  pub clock : Clock
  pub phase : Phase
  pub numbers : Numbers
  -- the root's number, once it is taken in
  pub root : Option ℕ
  -- whether it was left pending once
  pub root_left : Bool
  -- whether a panic is kept
  pub panicked : Bool
  -- the tasks that run, in order of their numbers
  pub running : List ℕ
  -- the numbers to visit in the next round, with duplicates
  pub ready : List ℕ
  -- what was drawn since the last entry that took some
  pub draws : List ℕ
  -- all that was drawn so far, in order
  pub drawn : List Drawn
  -- the parts that calls read and move
  pub stood : Stood
  -- the label of each node
  pub labels : List (ℕ × List ℕ)
  -- the spawned tasks that run, up to the end of their nodes
  pub marks : List (ℕ × Mark)
  -- the events of the call that comes next
  pub announced : List Announced
  -- the numbers that the last event must still wake
  pub owed : List ℕ
  -- the calls of the part under way
  pub turns : List Turn

-- before the first entry of a run that begins so: no task, no alarm, and node 0 alone
unfoldable pub begun : Begin → State
begun b = record {
  clock = record { time = b.start; fixed = b };
  phase = Blank;
  numbers = record { first = b.first; next = b.first };
  root = None;
  root_left = false;
  panicked = false;
  running = [];
  ready = [];
  draws = [];
  drawn = [];
  stood = record { alarms = no_alarms; nodes = first_record; results = []; slots = no_slots; signals = shutdown_alone; stop = no_stop };
  labels = (0, []) ∷ [];
  marks = [];
  announced = [];
  owed = [];
  turns = [];
}
