-- What a poller with a limit in time does next.
use Rattle.std.specs.Prelude.{ℕ, Option, Some, Result, Ok, Err}
use Rattle.rt_base.specs.declared.error.Error.{Error}
use Rattle.rt_base.specs.declared.error.Error.TheVariants.{Timeout as TimedOut}
use Rattle.rt_base.specs.declared.poll.Poll.{Poll}
use Rattle.rt_base.specs.declared.poll.Poll.TheVariants.{Ready, Pending}
use Rattle.rt_model.specs.Walk.{Step, Last, Gives, then}
use Rattle.rt_core.specs.Sleeper.{Sleeper}
use Rattle.rt_core.specs.Pollers.{begun_sleep, sleep_polls}
use Rattle.rt_core.specs.declared.timeout.Timeout.{Timeout}

-- what is polled under a limit
abbrev pub Polling : (A P O V : Type 0) → Type 0
Polling A P O V = P → ℕ → ℕ → Step A P O (Poll (Result V Error))

-- its sleep, which begins at the first poll
abbrev pub limit_of : {P : Type 0} → Timeout P → ℕ → Option Sleeper → Result Sleeper Error
limit_of t now sleep = begun_sleep now t.duration sleep

-- its sleep answered so
abbrev pub over : {V : Type 0} → Poll (Result (Unit {0}) Error) → Poll (Result V Error)
over Pending = Pending
over (Ready (Ok done)) = Ready (Err TimedOut)
over (Ready (Err error)) = Ready (Err error)

abbrev pub limits : {A P O V : Type 0} → Timeout P → Sleeper → Step A (Timeout P) O (Poll (Result V Error))
limits t sleep = then (sleep_polls sleep) (λ slept sleep. Gives (over slept) (record t { sleep = Some sleep }))

-- its state answered so
abbrev pub judged : {A P O V : Type 0} → Timeout P → Sleeper → Poll (Result V Error) → Step A (Timeout P) O (Poll (Result V Error))
judged t sleep Pending = limits t sleep
judged t sleep (Ready answer) = Gives (Ready answer) (record t { sleep = Some sleep })

-- its state is polled first, where its sleep begins in time
abbrev pub waits : {A P O V : Type 0} → Polling A P O V → Timeout P → ℕ → ℕ → Result Sleeper Error → Step A (Timeout P) O (Poll (Result V Error))
waits polls t now task (Ok sleep) = then (polls t.state now task) (λ answer state. judged (record t { state = state }) sleep answer)
waits polls t now task (Err error) = Gives (Ready (Err error)) t

unfoldable pub timeout_polls : {A P O V : Type 0} → Polling A P O V → Timeout P → ℕ → ℕ → Step A (Timeout P) O (Poll (Result V Error))
timeout_polls polls t now task = waits polls t now task (limit_of t now t.sleep)

-- giving it up gives up its state, and then its sleep, which spends nothing
unfoldable pub timeout_spends : {A P O : Type 0} → (P → Last A O) → Timeout P → Last A O
timeout_spends spends t = spends t.state
