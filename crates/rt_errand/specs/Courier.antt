-- What a courier does next: it makes a slot, and gets by it what it sends itself.
use Rattle.std.specs.Prelude.{ℕ, Result, Ok, Err}
use Rattle.rt_core.specs.Tasks.{Error, TimedOut, Poll, IsReady, IsPending, Slots, Slot, SlotClose, CallReply, SlotAt, Answer, Pending, Ready, NoMemory, TaskSteps, Plainly, Sending, Heard, Plain, Handed, Step, Last, Does, Spends, Gives, then, followed_by, root_context, TaskHandle, received_handle, handle_aborts, aborted, task_polls, task_spends, Sleeper, sleep_for, sleep_polls, closes}
use Rattle.rt_errand.specs.declared.courier.Courier.{Courier}
use Rattle.rt_errand.specs.declared.courier.Parcel.{Parcel}
use Rattle.rt_errand.specs.declared.courier.Parcel.TheVariants.{Number, Failure, Nothing, Late, Unwanted}
use Rattle.rt_errand.specs.declared.courier.Work.{Work}
use Rattle.rt_errand.specs.declared.courier.Work.TheVariants.{Begins, Carries, Waits, Done}

abbrev pub Output : Type 0
Output = Result ℕ Error

-- a call, or an answer and the courier after it
abbrev pub Next : Type 0
Next = Step Courier Courier Output (Answer Output)

abbrev pub at : Courier → Work → Courier
at c work = record c { work = work }

-- what was polled for is its own answer
abbrev pub answer_of : Poll (Result Output Error) → Answer Output
answer_of IsPending = Pending
answer_of (IsReady (Ok output)) = Ready output
answer_of (IsReady (Err error)) = Ready (Err error)

abbrev pub asks_again : Courier → TaskHandle Output → Next
asks_again c handle = then (task_polls handle) (λ answer handle. Gives (answer_of answer) (at c (Waits handle)))

-- an error is polled for once more
abbrev pub received : Courier → Poll (Result Output Error) → TaskHandle Output → Next
received c (IsReady (Err error)) handle = asks_again c handle
received c answer handle = Gives (answer_of answer) (at c (Waits handle))

abbrev pub receives : Courier → TaskHandle Output → Next
receives c handle = then (task_polls handle) (received c)

-- it is at the end of its way, with its handle and its sender
abbrev pub delivers : Courier → TaskHandle Output → ℕ → Parcel → Next
delivers c handle sender (Number number) = Spends (Sending sender (Ok (Ok number))) (Gives Pending (at c (Waits handle)))
delivers c handle sender Failure = Spends (Sending sender (Err TimedOut)) (Gives Pending (at c (Waits handle)))
delivers c handle sender Nothing = Spends (Plainly (Slots (SlotClose sender))) (Gives Pending (at c (Waits handle)))
delivers c handle sender (Late number) =
    followed_by (handle_aborts handle) (Spends (Sending sender (Ok (Ok number))) (Gives Pending (at c (Waits (aborted handle)))))
delivers c handle sender (Unwanted number) =
    followed_by (task_spends handle) (Spends (Sending sender (Ok (Ok number))) (Gives (Ready (Ok number)) c))

-- it is on its way, and polls its handle, so that what comes wakes it
abbrev pub looks_out : Courier → TaskHandle Output → ℕ → Sleeper → Parcel → Next
looks_out c handle sender sleep parcel =
    then (task_polls handle) (λ answer handle. Gives (answer_of answer) (at c (Carries handle sender sleep parcel)))

-- its sleep answered so
abbrev pub slept : Courier → TaskHandle Output → ℕ → Parcel → Poll (Result (Unit {0}) Error) → Sleeper → Next
slept c handle sender parcel (IsReady (Ok over)) sleep = delivers c handle sender parcel
slept c handle sender parcel (IsReady (Err error)) sleep = Gives (Ready (Err error)) (at c (Carries handle sender sleep parcel))
slept c handle sender parcel IsPending sleep = looks_out c handle sender sleep parcel

abbrev pub carries : Courier → TaskHandle Output → ℕ → Sleeper → Parcel → Next
carries c handle sender sleep parcel = then (sleep_polls sleep) (slept c handle sender parcel)

-- its slot was made: it has both ends
abbrev pub slotted : Courier → Sleeper → Parcel → CallReply → Next
slotted c sleep parcel (SlotAt slot) = carries c (received_handle slot) slot sleep parcel
slotted c sleep parcel _ = Gives NoMemory c

abbrev pub made : Courier → Sleeper → Parcel → Heard Output → Next
made c sleep parcel (Plain reply) = slotted c sleep parcel reply
made c sleep parcel (Handed value) = Gives NoMemory c

abbrev pub begins : Courier → Sleeper → Parcel → Next
begins c sleep parcel = Does (Plainly (Slots Slot)) (made c sleep parcel)

-- its sleep begins, or would end too late
abbrev pub begun : Courier → Parcel → Result Sleeper Error → Next
begun c parcel (Ok sleep) = begins c sleep parcel
begun c parcel (Err error) = Gives (Ready (Err error)) c

-- a poll, by what is to be done
abbrev pub polled : Courier → Work → ℕ → Next
polled c (Begins parcel) time = begun (at c Done) parcel (sleep_for time 1000000)
polled c (Carries handle sender sleep parcel) time = carries (at c Done) handle sender sleep parcel
polled c (Waits handle) time = receives (at c Done) handle
polled c Done time = Gives Pending c

-- its end gives up the ends of the slot that it has, and closes its context
abbrev pub ended : Courier → Work → Last Courier Output
ended c (Carries handle sender sleep parcel) = followed_by (task_spends handle) (Spends (Plainly (Slots (SlotClose sender))) (closes c.context.node))
ended c (Waits handle) = followed_by (task_spends handle) (closes c.context.node)
ended c work = closes c.context.node

abbrev pub courier_steps : TaskSteps Courier Output
courier_steps = record { next = λ c time task. polled c c.work time; last = λ c time number. ended c c.work }

-- the root, on node 0
abbrev pub courier_made : Parcel → Step Courier Courier Output (Unit {0})
courier_made parcel = Gives tt (record { context = root_context; work = Begins parcel })
