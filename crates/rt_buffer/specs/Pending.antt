-- Syncs that a test holds back. Each, and each gate, has a number; numbers ascend in the order of the starts.
use Rattle.std.specs.Prelude.{ℕ, Bool, true, false, if◌then◌else◌, List, [], ◌∷◌, ◌++◌, length, take, drop, Option, Some, None, Result, Ok, Err, slice_get, slice_set}
use Rattle.std.specs.List.{filter_map}
use Rattle.rt_base.specs.declared.error.Error.{Error}
use Rattle.rt_base.specs.declared.error.Error.TheVariants.{Io}
use Rattle.rt_base.specs.declared.io_kind.IoKind.TheVariants.{InjectedSyncFailure}
use Rattle.rt_base.specs.declared.poll.Poll.{Poll}
use Rattle.rt_base.specs.declared.poll.Poll.TheVariants as poll
use Rattle.rt_buffer.specs.declared.parked.Parked.{Parked}
use Rattle.rt_buffer.specs.Mocks.{one_more}

-- `parked` are all that were ever held, `queue` the numbers of those that nothing took for a release, in the order of their
-- starts, and `gate` the number of the gate that no call took
pub record Pending : Type 0 where
  pub parked : List Parked
  pub queue : List ℕ
  pub gate : Option ℕ
  pub is_armed : Bool
  pub is_unblocked : Bool
  pub fails : Bool
  pub calls : ℕ
  pub starts : ℕ
  pub entered : ℕ
  pub completions : ℕ

abbrev pub none_pending : Pending
none_pending =
    record { parked = []; queue = []; gate = None; is_armed = false; is_unblocked = false; fails = false; calls = 0; starts = 0; entered = 0; completions = 0 }

-- what a sync that isn't given its answer comes to
abbrev pub outcome : Bool → Result Unit Error
outcome true = Err (Io InjectedSyncFailure)
outcome false = Ok tt

-- one that was just parked
abbrev pub fresh_parked : Parked
fresh_parked = record { task = None; is_blocked = false; answer = None }

-- a change of one, where it is there
abbrev pub changed_found : List Parked → ℕ → (Parked → Parked) → Option Parked → List Parked
changed_found parked n f None = parked
changed_found parked n f (Some p) = slice_set parked n (f p)

abbrev pub changed : List Parked → ℕ → (Parked → Parked) → List Parked
changed parked n f = changed_found parked n f (slice_get parked n)

-- Releases.

abbrev pub released : Result Unit Error → Parked → Parked
released answer p = record p { answer = Some answer }

abbrev pub all_released : Result Unit Error → List ℕ → List Parked → List Parked
all_released answer [] parked = parked
all_released answer (n ∷ ns) parked = all_released answer ns (changed parked n (released answer))

-- the task of the last pending poll
abbrev pub task_of : Option Parked → Option ℕ
task_of None = None
task_of (Some p) = p.task

abbrev pub task_at : List Parked → ℕ → Option ℕ
task_at parked n = task_of (slice_get parked n)

-- the tasks to wake, in the order of the starts
abbrev pub tasks_of : List Parked → List ℕ → List ℕ
tasks_of parked ns = filter_map (λ n. task_at parked n) ns

-- the first so many of the queue are released with this answer
abbrev pub first_released : Result Unit Error → ℕ → Pending → Pending
first_released answer count p =
    record p { parked = all_released answer (take count p.queue) p.parked; queue = drop count p.queue }

-- a sync was polled, or the call that is held was made
abbrev pub is_blocked_of : Option Parked → Bool
is_blocked_of None = false
is_blocked_of (Some p) = p.is_blocked

-- Calls that are held.

-- one more is held
abbrev pub with_parked : Pending → Pending
with_parked p = record p { parked = p.parked ++ fresh_parked ∷ []; queue = p.queue ++ length p.parked ∷ [] }

abbrev pub armed : Pending → Pending
armed p =
    record p { parked = p.parked ++ fresh_parked ∷ []; queue = p.queue ++ length p.parked ∷ []; gate = Some (length p.parked); is_armed = true; calls = 0 }

-- the gate that a durability call takes
abbrev pub gate_of : Pending → Option ℕ
gate_of p = if p.is_armed then p.gate else None

-- a durability call is counted where that is armed, and takes the gate
abbrev pub observed : Pending → Pending
observed p = if p.is_armed then record p { calls = one_more p.calls; gate = None } else p

-- what holds a sync that is started: the gate, else a place in the queue, and nothing once that is unblocked
abbrev pub hold_for : Option ℕ → Pending → Option ℕ
hold_for (Some gate) p = Some gate
hold_for None p = if p.is_unblocked then None else Some (length p.parked)

abbrev pub start_hold : Pending → Option ℕ
start_hold p = hold_for (gate_of p) p

abbrev pub parked_for : Option ℕ → Pending → Pending
parked_for (Some gate) p = p
parked_for None p = if p.is_unblocked then p else with_parked p

abbrev pub with_start : Pending → Pending
with_start p = record p { starts = one_more p.starts }

abbrev pub started : Pending → Pending
started p = with_start (observed (parked_for (gate_of p) p))

-- a call that takes the gate
abbrev pub blocked : Parked → Parked
blocked p = record p { is_blocked = true }

abbrev pub blocked_at : Option ℕ → Pending → Pending
blocked_at None p = p
blocked_at (Some n) p = record p { parked = changed p.parked n blocked }

abbrev pub called : Pending → Pending
called p = blocked_at (gate_of p) (observed p)

-- Polls.

abbrev pub answer_of : Option (Result Unit Error) → Poll (Result Unit Error)
answer_of None = poll.Pending
answer_of (Some answer) = poll.Ready answer

abbrev pub found_answer : Option Parked → Poll (Result Unit Error)
found_answer None = poll.Pending
found_answer (Some p) = answer_of p.answer

-- what it was released with; what nothing holds goes on at once
abbrev pub hold_answer : Pending → Option ℕ → Poll (Result Unit Error)
hold_answer p None = poll.Ready (outcome p.fails)
hold_answer p (Some n) = found_answer (slice_get p.parked n)

-- the first poll counts, and the last one's task is kept
abbrev pub entered_by : Bool → ℕ → ℕ
entered_by true entered = entered
entered_by false entered = one_more entered

abbrev pub polled_found : ℕ → ℕ → Pending → Option Parked → Pending
polled_found n task p None = p
polled_found n task p (Some k) =
    record p { parked = slice_set p.parked n (record { task = Some task; is_blocked = true; answer = None }); entered = entered_by k.is_blocked p.entered }

abbrev pub polled : Option ℕ → ℕ → Pending → Pending
polled None task p = record p { entered = one_more p.entered }
polled (Some n) task p = polled_found n task p (slice_get p.parked n)

abbrev pub completed : Pending → Pending
completed p = record p { completions = one_more p.completions }

-- all are released where that is pending
abbrev pub driven : {V : Type 0} → Poll V → Pending → Pending
driven (poll.Ready v) p = p
driven poll.Pending p = first_released (Ok tt) (length p.queue) p
