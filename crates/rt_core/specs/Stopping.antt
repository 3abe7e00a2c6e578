-- What a poller of the shutdown's end does next.
use Rattle.std.specs.Prelude.{ℕ, Option, Some, None, Result, Ok, Err}
use Rattle.rt_base.specs.declared.error.Error.{Error}
use Rattle.rt_base.specs.declared.error.Error.TheVariants.{NoMemory}
use Rattle.rt_base.specs.declared.poll.Poll.{Poll}
use Rattle.rt_base.specs.declared.poll.Poll.TheVariants.{Ready}
use Rattle.rt_audit.specs.declared.call.Call.TheVariants.{Stop as StopCall}
use Rattle.rt_audit.specs.declared.reply.CallReply.{CallReply}
use Rattle.rt_audit.specs.declared.reply.CallReply.TheVariants.{CompletionAt, Refused}
use Rattle.rt_model.specs.Turns.{Plainly, Heard, Plain, Handed}
use Rattle.rt_model.specs.Walk.{Step, Last, Does, Gives, then, followed_by}
use Rattle.rt_core.specs.Pollers.{sleep_for, closes}
use Rattle.rt_core.specs.Signals.{completion_polls, completion_spends}
use Rattle.rt_core.specs.Sleeper.{Sleeper}
use Rattle.rt_core.specs.Timeouts.{timeout_polls, timeout_spends}
use Rattle.rt_core.specs.declared.stop.Stop.{Stop}
use Rattle.rt_core.specs.declared.stop.Stopping.{Stopping}
use Rattle.rt_core.specs.declared.stop.Stopping.TheVariants.{Begins, Waits, Limited}

-- a limit so long, with its sleep
abbrev pub with_sleep : ℕ → Result Sleeper Error → Result (Option (ℕ × Sleeper)) Error
with_sleep duration (Ok sleep) = Ok (Some (duration, sleep))
with_sleep duration (Err error) = Err error

-- a limit that begins now, where there is one
abbrev pub limit_for : Option ℕ → ℕ → Result (Option (ℕ × Sleeper)) Error
limit_for None now = Ok None
limit_for (Some duration) now = with_sleep duration (sleep_for now duration)

-- its completion is waited for, under the limit
abbrev pub stopping : ℕ → Option (ℕ × Sleeper) → Stopping
stopping completion None = Waits completion
stopping completion (Some limit) = Limited (record { state = completion; duration = limit.0; sleep = Some limit.1 })

abbrev pub Begun : (A O : Type 0) → Type 0
Begun A O = Step A Stop O (Result (Unit {0}) Error)

-- the run was stopped, and this was heard of it
abbrev pub stop_replied : {A O : Type 0} → Stop → Option (ℕ × Sleeper) → CallReply → Begun A O
stop_replied s limit (CompletionAt completion) = Gives (Ok tt) (record s { stage = stopping completion limit })
stop_replied s limit (Refused error) = Gives (Err error) s
stop_replied s limit _ = Gives (Err NoMemory) s

abbrev pub stop_heard : {A O : Type 0} → Stop → Option (ℕ × Sleeper) → Heard O → Begun A O
stop_heard s limit (Plain reply) = stop_replied s limit reply
stop_heard s limit (Handed value) = Gives (Err NoMemory) s

-- the run is stopped where the limit begins in time
abbrev pub begins_by : {A O : Type 0} → Stop → Result (Option (ℕ × Sleeper)) Error → Begun A O
begins_by s (Ok limit) = Does (Plainly (StopCall s.value)) (stop_heard s limit)
begins_by s (Err error) = Gives (Err error) s

unfoldable pub begins : {A O : Type 0} → Stop → ℕ → Begun A O
begins s now = begins_by s (limit_for s.timeout now)

abbrev pub Ending : (A O : Type 0) → Type 0
Ending A O = Step A Stop O (Poll (Result (Unit {0}) Error))

-- a shutdown that began is waited for
unfoldable pub still : {A O : Type 0} → Stop → ℕ → ℕ → Stopping → Ending A O
still s now task Begins = Gives (Ready (Err NoMemory)) s
still s now task (Waits completion) = then (completion_polls completion) (λ answer completion. Gives answer (record s { stage = Waits completion }))
still s now task (Limited limit) =
    then (timeout_polls (λ completion now task. completion_polls completion) limit now task) (λ answer limit. Gives answer (record s { stage = Limited limit }))

-- it began, or was refused
abbrev pub begun : {A O : Type 0} → ℕ → ℕ → Result (Unit {0}) Error → Stop → Ending A O
begun now task (Ok done) s = still s now task s.stage
begun now task (Err error) s = Gives (Ready (Err error)) s

-- the first poll stops the run, and then waits as the others do
unfoldable pub stop_polls : {A O : Type 0} → Stop → ℕ → ℕ → Stopping → Ending A O
stop_polls s now task Begins = then (begins s now) (begun now task)
stop_polls s now task stage = still s now task stage

-- its completion is closed, where it has one
unfoldable pub stage_spends : {A O : Type 0} → Stopping → Last A O
stage_spends Begins = Gives tt tt
stage_spends (Waits completion) = completion_spends completion
stage_spends (Limited limit) = timeout_spends completion_spends limit

-- and then its context
unfoldable pub stop_spends : {A O : Type 0} → Stop → Last A O
stop_spends s = followed_by (stage_spends s.stage) (closes s.context.node)
