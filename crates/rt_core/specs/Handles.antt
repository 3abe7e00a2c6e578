-- What the handles of tasks and of completions do next.
use Rattle.std.specs.Prelude.{ℕ, Bool, true, false, Option, Some, None, Result, Err}
use Rattle.rt_base.specs.declared.error.Error.{Error}
use Rattle.rt_base.specs.declared.error.Error.TheVariants.{Closed}
use Rattle.rt_base.specs.declared.poll.Poll.{Poll}
use Rattle.rt_base.specs.declared.poll.Poll.TheVariants.{Ready}
use Rattle.rt_audit.specs.declared.call.Call.{Call}
use Rattle.rt_audit.specs.declared.call.Call.TheVariants.{Abort, Join, GiveUp, Slots}
use Rattle.rt_audit.specs.declared.slot_call.SlotCall.TheVariants.{AbortWait}
use Rattle.rt_model.specs.Turns.{Plainly}
use Rattle.rt_model.specs.Walk.{Step, Last, Does, Spends, Gives, then, followed_by}
use Rattle.rt_world.specs.Receiving.{heard_result, receiver_polls, receiver_spends}
use Rattle.rt_core.specs.Completions.{Polls, completion_polls, completion_spends}
use Rattle.rt_core.specs.declared.completion.Source.TheVariants.{Held, Polled}
use Rattle.rt_core.specs.declared.completion.Stage.TheVariants.{Open, Aborted}
use Rattle.rt_core.specs.declared.handle.Kind.{Kind}
use Rattle.rt_core.specs.declared.handle.Kind.TheVariants.{Task, Received, Completion}
use Rattle.rt_core.specs.declared.handle.NoPoller.{NoPoller}

-- what a poll of a handle gives, whose own poller is this
abbrev pub Joining : (A O P : Type 0) → Type 0
Joining A O P = Step A (Kind O P) O (Poll (Result O Error))

-- a handle of this task, of what comes by this slot, one that holds its result, and one of what a poller gives
abbrev pub task_handle : {O P : Type 0} → ℕ → Kind O P
task_handle task = Task (record { task = task; aborted = false })

abbrev pub received_handle : {O P : Type 0} → ℕ → Kind O P
received_handle slot = Received (record { receiver = slot; aborted = false })

abbrev pub held_handle : {O P : Type 0} → Result O Error → Kind O P
held_handle answer = Completion (record { source = Held (Some answer); stage = Open })

abbrev pub polled_handle : {O P : Type 0} → P → Kind O P
polled_handle state = Completion (record { source = Polled state; stage = Open })

-- a handle polls the result of its task, or its receiver, or what completes it
unfoldable pub handle_polls : {A O P : Type 0} → Polls A O P O → Kind O P → Joining A O P
handle_polls polls (Task claim) = Does (Plainly (Join claim.task)) (heard_result (Task claim))
handle_polls polls (Received r) = then (receiver_polls r.receiver) (λ answer slot. Gives answer (Received (record r { receiver = slot })))
handle_polls polls (Completion c) = then (completion_polls polls c c.stage) (λ answer c. Gives answer (Completion c))

-- giving it up gives the result of its task up, or its receiver, or its poller
unfoldable pub handle_spends : {A O P : Type 0} → (P → Last A O) → Kind O P → Last A O
handle_spends spends (Task claim) = Spends (Plainly (GiveUp claim.task)) (Gives tt tt)
handle_spends spends (Received r) = receiver_spends r.receiver
handle_spends spends (Completion c) = completion_spends spends c.source

-- the call by which a handle aborts, if it wasn't made yet
abbrev pub unless_aborted : Bool → Call → Option Call
unless_aborted true call = None
unless_aborted false call = Some call

abbrev pub unaborted : {O P : Type 0} → Kind O P → Option Call
unaborted (Task claim) = unless_aborted claim.aborted (Abort claim.task)
unaborted (Received r) = unless_aborted r.aborted (Slots (AbortWait r.receiver))
unaborted (Completion c) = None

abbrev pub aborts : {A O : Type 0} → Option Call → Last A O
aborts None = Gives tt tt
aborts (Some call) = Spends (Plainly call) (Gives tt tt)

-- the first abort flags the task, or ends the wait for what comes by a slot
unfoldable pub handle_aborts : {A O P : Type 0} → Kind O P → Last A O
handle_aborts h = aborts (unaborted h)

-- a completion that is aborted is so from then on, whatever came
abbrev pub aborted : {O P : Type 0} → Kind O P → Kind O P
aborted (Task claim) = Task (record claim { aborted = true })
aborted (Received r) = Received (record r { aborted = true })
aborted (Completion c) = Completion (record c { stage = Aborted })

-- giving a guard over this handle up aborts its task, and then gives its result up
abbrev pub guard_spends : {A O P : Type 0} → (P → Last A O) → Kind O P → Last A O
guard_spends spends h = followed_by (handle_aborts h) (handle_spends spends (aborted h))

-- nothing makes such a poller; it would be closed
unfoldable pub no_polls : {A O V : Type 0} → NoPoller → Step A NoPoller O (Poll (Result V Error))
no_polls none = Gives (Ready (Err Closed)) none

unfoldable pub no_spends : {A O : Type 0} → NoPoller → Last A O
no_spends none = Gives tt tt

-- a handle without a poller of its own, as that of a task is
abbrev pub TaskHandle : Type 0 → Type 0
TaskHandle O = Kind O NoPoller

abbrev pub task_polls : {A O : Type 0} → TaskHandle O → Joining A O NoPoller
task_polls h = handle_polls no_polls h

abbrev pub task_spends : {A O : Type 0} → TaskHandle O → Last A O
task_spends h = handle_spends no_spends h
