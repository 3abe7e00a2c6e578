-- What an errand does next.
use Rattle.std.specs.Prelude.{ℕ, Result, Ok, Err}
use Rattle.rt_core.specs.Tasks.{Error, Poll, IsReady, IsPending, Wake, Refused, Answer, Pending, Ready, TaskSteps, Plainly, Heard, Plain, Step, Last, Does, Gives, then, followed_by, root_context, Sleeper, sleep_for, sleep_polls, sleep_spends, reschedule_polls, reschedule_spends, closes}
use Rattle.rt_core.specs.declared.yields.Reschedule.{Reschedule}
use Rattle.rt_errand.specs.declared.errand.Errand.{Errand}
use Rattle.rt_errand.specs.declared.errand.Stage.{Stage}
use Rattle.rt_errand.specs.declared.errand.Stage.TheVariants.{Yields, Naps, Sleeps, Wakes, Waits, Done}
use Rattle.rt_errand.specs.declared.maker.RootErrand.{RootErrand}

abbrev pub Output : Type 0
Output = Result ℕ Error

-- a call, or an answer and the errand after it
abbrev pub Next : Type 0
Next = Step Errand Errand Output (Answer Output)

abbrev pub Polled : Type 0
Polled = Poll (Result (Unit {0}) Error)

abbrev pub at : Errand → Stage → Errand
at e stage = record e { stage = stage }

-- its sleep answered so
abbrev pub slept : Errand → Polled → Next
slept e IsPending = Gives Pending e
slept e (IsReady (Ok over)) = Gives (Ready (Ok e.number)) e
slept e (IsReady (Err error)) = Gives (Ready (Err error)) e

abbrev pub sleeps : Errand → Sleeper → Next
sleeps e sleep = then (sleep_polls sleep) (λ answer sleep. slept (at e (Sleeps sleep)) answer)

-- its sleep begins, or would end too late
abbrev pub begun : Errand → Result Sleeper Error → Next
begun e (Ok sleep) = sleeps e sleep
begun e (Err error) = Gives (Ready (Err error)) e

abbrev pub naps : Errand → ℕ → ℕ → Next
naps e nap time = begun e (sleep_for time nap)

-- its turn of the others answered so
abbrev pub yielded : Errand → ℕ → ℕ → Polled → Reschedule → Next
yielded e nap time IsPending turn = Gives Pending (at e (Yields turn nap))
yielded e nap time (IsReady (Ok over)) turn = naps (at e Done) nap time
yielded e nap time (IsReady (Err error)) turn = Gives (Ready (Err error)) (at e Done)

-- its wake of another task answered so
abbrev pub woken : Errand → ℕ → ℕ → Heard Output → Next
woken e nap time (Plain (Refused error)) = Gives (Ready (Err error)) e
woken e nap time _ = naps e nap time

-- a poll, by the stage
abbrev pub polled : Errand → Stage → ℕ → ℕ → Next
polled e (Yields turn nap) time task = then (reschedule_polls turn task) (yielded e nap time)
polled e (Naps nap) time task = naps (at e Done) nap time
polled e (Sleeps sleep) time task = sleeps e sleep
polled e (Wakes other nap) time task = Does (Plainly (Wake other)) (woken (at e Done) nap time)
polled e Waits time task = Gives Pending (at e Waits)
polled e Done time task = Gives (Ready (Ok e.number)) (at e Done)

-- its end gives up what it polls, and closes its context
abbrev pub ended : Errand → Stage → Last Errand Output
ended e (Yields turn nap) = followed_by (reschedule_spends turn) (closes e.context.node)
ended e (Sleeps sleep) = followed_by (sleep_spends sleep) (closes e.context.node)
ended e stage = closes e.context.node

abbrev pub errand_steps : TaskSteps Errand Output
errand_steps = record { next = λ e time task. polled e e.stage time task; last = λ e time number. ended e e.stage }

-- the root, on node 0
abbrev pub errand_made : RootErrand → Step Errand Errand Output (Unit {0})
errand_made maker = Gives tt (record { context = root_context; stage = maker.stage; number = maker.number })
