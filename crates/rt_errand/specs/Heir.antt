-- What an heir does next.
use Rattle.std.specs.Prelude.{ℕ, codes, Result, Ok, Err}
use Rattle.rt_core.specs.Tasks.{Error, Poll, IsReady, IsPending, CloseNode, Answer, Pending, Ready as IsOver, TaskSteps, Plainly, Step, Last, Spends, Gives, then, followed_by, Context, childs, root_context, spawns, TaskHandle, task_polls, task_spends, closes}
use Rattle.rt_errand.specs.declared.heir.Heir.{Heir}
use Rattle.rt_errand.specs.declared.heir.Stage.{Stage}
use Rattle.rt_errand.specs.declared.heir.Stage.TheVariants.{Starts, Waits, Ready, Over}

abbrev pub Output : Type 0
Output = Result ℕ Error

abbrev pub Next : Type 0
Next = Step Heir Heir Output (Answer Output)

abbrev pub Joined : Type 0
Joined = Poll (Result Output Error)

abbrev pub at : Heir → Stage → Heir
at h stage = record h { stage = stage }

-- one that is ready
abbrev pub ready : Context → Heir
ready context = record { context = context; stage = Ready }

-- a handle below an ended node was polled
abbrev pub given : Heir → Joined → Next
given h IsPending = Gives Pending h
given h (IsReady (Ok output)) = Gives (IsOver output) h
given h (IsReady (Err error)) = Gives (IsOver (Err error)) h

abbrev pub joins : Heir → TaskHandle Output → Next
joins h late = then (task_polls late) (λ answer late. followed_by (task_spends late) (given h answer))

-- a spawn below the ended node was answered
abbrev pub tried : Heir → Context → Result (TaskHandle Output) Error → Next
tried h below (Ok late) = joins h late
tried h below (Err error) = Spends (Plainly (CloseNode below.node)) (Gives (IsOver (Err error)) h)

abbrev pub tries : Heir → Context → Next
tries h below = then (spawns below ready) (λ late told. tried h below late)

abbrev pub inherits : Heir → TaskHandle Output → Context → Next
inherits h handle below = followed_by (task_spends handle) (tries h below)

-- the first one's result was polled
abbrev pub waited : Heir → Context → TaskHandle Output → Joined → Next
waited h below handle IsPending = Gives Pending (at h (Waits handle below))
waited h below handle (IsReady answer) = inherits h handle below

abbrev pub waits : Heir → TaskHandle Output → Context → Next
waits h handle below = then (task_polls handle) (λ answer handle. waited h below handle answer)

-- the first one was spawned, or refused
abbrev pub started : Heir → Context → Context → Result (TaskHandle Output) Error → Next
started h own below (Ok handle) = waits h handle below
started h own below (Err error) = Spends (Plainly (CloseNode own.node)) (Spends (Plainly (CloseNode below.node)) (Gives (IsOver (Err error)) h))

-- a context below its own was made
abbrev pub kept : Heir → Context → Result Context Error → Next
kept h own (Ok below) = then (spawns own ready) (λ handle told. started h own below handle)
kept h own (Err error) = Spends (Plainly (CloseNode own.node)) (Gives (IsOver (Err error)) h)

-- a child was made for it
abbrev pub begun : Heir → Result Context Error → Next
begun h (Ok own) = then (childs own (codes "below")) (λ below told. kept h own below)
begun h (Err error) = Gives (IsOver (Err error)) h

-- a poll, by its stage
abbrev pub polled : Heir → Stage → Next
polled h Starts = then (childs h.context (codes "own")) (λ own told. begun (at h Over) own)
polled h (Waits handle below) = waits (at h Over) handle below
polled h Ready = Gives (IsOver (Ok 1)) (at h Over)
polled h Over = Gives Pending (at h Over)

-- its end gives up what it holds, and closes its context
abbrev pub ended : Heir → Stage → Last Heir Output
ended h (Waits handle below) = followed_by (task_spends handle) (Spends (Plainly (CloseNode below.node)) (closes h.context.node))
ended h stage = closes h.context.node

abbrev pub heir_steps : TaskSteps Heir Output
heir_steps = record { next = λ h time task. polled h h.stage; last = λ h time number. ended h h.stage }

-- the root, on node 0
abbrev pub heir_made : Step Heir Heir Output (Unit {0})
heir_made = Gives tt (record { context = root_context; stage = Starts })
