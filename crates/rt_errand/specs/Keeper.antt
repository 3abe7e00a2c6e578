-- What a keeper does next: it serves until its run is stopped, by the closer that it hires.
use Rattle.std.specs.Prelude.{ℕ, ℤ, pos, codes, None, Result, Ok, Err}
use Rattle.rt_core.specs.Tasks.{Error, Poll, IsReady, IsPending, Answer, Pending, Ready, TaskSteps, Step, Last, Gives, then, followed_by, Context, childs, root_context, starts, TaskHandle, task_spends, closes, asks_stopped, signal_polls, signal_spends, stop_polls, stop_spends}
use Rattle.rt_core.specs.declared.signals.SignalKind.{SignalKind}
use Rattle.rt_core.specs.declared.stop.Stop.{Stop}
use Rattle.rt_core.specs.declared.stop.Stopping.TheVariants.{Begins}
use Rattle.rt_errand.specs.declared.keeper.Duty.{Duty}
use Rattle.rt_errand.specs.declared.keeper.Duty.TheVariants.{Opens, Serves, Closes, Stops, Done}
use Rattle.rt_errand.specs.declared.keeper.Keeper.{Keeper}

abbrev pub Output : Type 0
Output = Result ℤ Error

-- a call, or an answer and the task after it
abbrev pub Next : Type 0
Next = Step Keeper Keeper Output (Answer Output)

abbrev pub at : Keeper → Duty → Keeper
at k duty = record k { duty = duty }

-- its signal showed this
abbrev pub shown : Keeper → Poll (Result ℤ Error) → Next
shown k IsPending = Gives Pending k
shown k (IsReady output) = Gives (Ready output) k

abbrev pub serves : Keeper → SignalKind → Next
serves k signal = then (signal_polls signal) (λ answer signal. shown (at k (Serves signal)) answer)

-- it serves by a signal of the shutdown
abbrev pub signaled : Keeper → Result SignalKind Error → Next
signaled k (Ok signal) = serves k signal
signaled k (Err error) = Gives (Ready (Err error)) k

abbrev pub asks : Keeper → Next
asks k = then asks_stopped (λ told u. signaled k told)

-- a closer is on its context, and is to stop the run
abbrev pub closer : Context → Keeper
closer context = record { context = context; duty = Closes }

-- it lets the closer go, and serves
abbrev pub settles : Keeper → TaskHandle Output → Next
settles k handle = followed_by (task_spends handle) (asks k)

abbrev pub hired : Keeper → Result (TaskHandle Output) Error → Next
hired k (Ok handle) = settles k handle
hired k (Err error) = Gives (Ready (Err error)) k

abbrev pub opens : Keeper → Next
opens k = then (starts k.context (codes "closer") closer) (λ handle told. hired k handle)

-- what it stops is over, and the value that it gave is its output
abbrev pub over : Keeper → Poll (Result (Unit {0}) Error) → Next
over k IsPending = Gives Pending k
over k (IsReady (Ok done)) = Gives (Ready (Ok (pos 5))) k
over k (IsReady (Err error)) = Gives (Ready (Err error)) k

abbrev pub stops : Keeper → Stop → ℕ → ℕ → Next
stops k stop time task = then (stop_polls stop time task stop.stage) (λ answer stop. over (at k (Stops stop)) answer)

-- it stops the run on a context of its own
abbrev pub stopping : Keeper → ℕ → ℕ → Result Context Error → Next
stopping k time task (Ok context) = stops k (record { context = context; value = pos 5; timeout = None; stage = Begins }) time task
stopping k time task (Err error) = Gives (Ready (Err error)) k

abbrev pub closing : Keeper → ℕ → ℕ → Next
closing k time task = then (childs k.context (codes "stop")) (λ child told. stopping k time task child)

-- a poll, by what is to be done
abbrev pub polled : Keeper → Duty → ℕ → ℕ → Next
polled k Opens time task = opens (at k Done)
polled k (Serves signal) time task = serves (at k Done) signal
polled k Closes time task = closing (at k Done) time task
polled k (Stops stop) time task = stops (at k Done) stop time task
polled k Done time task = Gives Pending k

-- its end gives up what it polls, and closes its context
abbrev pub ended : Keeper → Duty → Last Keeper Output
ended k (Serves signal) = followed_by (signal_spends signal) (closes k.context.node)
ended k (Stops stop) = followed_by (stop_spends stop) (closes k.context.node)
ended k duty = closes k.context.node

abbrev pub keeper_steps : TaskSteps Keeper Output
keeper_steps = record { next = λ k time task. polled k k.duty time task; last = λ k time number. ended k k.duty }

abbrev pub keeper_made : Keeper
keeper_made = record { context = root_context; duty = Opens }
