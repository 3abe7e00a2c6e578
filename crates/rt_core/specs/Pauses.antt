-- What a pause does next: a sleep that begins at its first poll.
use Rattle.std.specs.Prelude.{ℕ, Some, None, Result, Ok, Err}
use Rattle.rt_base.specs.declared.error.Error.{Error}
use Rattle.rt_base.specs.declared.poll.Poll.{Poll}
use Rattle.rt_base.specs.declared.poll.Poll.TheVariants.{Ready}
use Rattle.rt_model.specs.Walk.{Step, Last, Gives, then}
use Rattle.rt_core.specs.Sleeper.{Sleeper}
use Rattle.rt_core.specs.Pollers.{begun_sleep, sleep_polls}
use Rattle.rt_core.specs.declared.pause.Pause.{Pause}

-- one that has not begun
abbrev pub pause_for : ℕ → Pause
pause_for duration = record { duration = duration; sleep = None }

-- what a poll of it gives
abbrev pub Pausing : (A O : Type 0) → Type 0
Pausing A O = Step A Pause O (Poll (Result (Unit {0}) Error))

-- its sleep is polled, where it ends in time
abbrev pub pauses : {A O : Type 0} → Pause → Result Sleeper Error → Pausing A O
pauses p (Ok sleep) = then (sleep_polls sleep) (λ answer sleep. Gives answer (record p { sleep = Some sleep }))
pauses p (Err error) = Gives (Ready (Err error)) (pause_for p.duration)

-- its sleep begins at the first poll
unfoldable pub pause_polls : {A O : Type 0} → Pause → ℕ → Pausing A O
pause_polls p time = pauses p (begun_sleep time p.duration p.sleep)

-- giving it up calls nothing
unfoldable pub pause_spends : {A O : Type 0} → Pause → Last A O
pause_spends p = Gives tt tt
