-- What the pollers of this crate do next.
use Rattle.std.specs.Prelude.{ℕ, ◌+◌, Option, Some, None, Bool, true, false, Result, Ok, Err, ltb, if◌then◌else◌}
use Rattle.rt_base.specs.declared.error.Error.{Error}
use Rattle.rt_base.specs.declared.error.Error.TheVariants.{NoMemory, ClockOverflow}
use Rattle.rt_base.specs.declared.poll.Poll.{Poll}
use Rattle.rt_base.specs.declared.poll.Poll.TheVariants.{Ready, Pending}
use Rattle.rt_base.specs.declared.time.TheConstants.{MAX_TIME}
use Rattle.rt_audit.specs.declared.call.Call.TheVariants.{Wake, CloseNode}
use Rattle.rt_audit.specs.declared.reply.CallReply.{CallReply}
use Rattle.rt_audit.specs.declared.reply.CallReply.TheVariants.{Done, PendingAt, Ready as IsReady, Refused}
use Rattle.rt_model.specs.Turns.{Plainly, Sleeping, Heard, Plain, Handed}
use Rattle.rt_model.specs.Walk.{Step, Last, Does, Spends, Gives}
use Rattle.rt_core.specs.Sleeper.{Sleeper}
use Rattle.rt_core.specs.declared.yields.Reschedule.{Reschedule}

-- a sleep that has no alarm yet
abbrev pub until : ℕ → Sleeper
until deadline = record { deadline = deadline; alarm = None }

-- a sleep for so long from this time on, where it ends in time
unfoldable pub sleep_for : ℕ → ℕ → Result Sleeper Error
sleep_for time duration = if ltb MAX_TIME (time + duration) then Err ClockOverflow else Ok (until (time + duration))

-- a sleep until this moment, where there is one
unfoldable pub sleep_until : ℕ → Result Sleeper Error
sleep_until deadline = if ltb MAX_TIME deadline then Err ClockOverflow else Ok (until deadline)

-- this sleep, or where there is none yet one that begins now
abbrev pub begun_sleep : ℕ → ℕ → Option Sleeper → Result Sleeper Error
begun_sleep time duration None = sleep_for time duration
begun_sleep time duration (Some sleep) = Ok sleep

-- a sleep that heard this of its poll: it is over, or its alarm has this number
abbrev pub slept : {A O : Type 0} → Sleeper → CallReply → Step A Sleeper O (Poll (Result (Unit {0}) Error))
slept s IsReady = Gives (Ready (Ok tt)) s
slept s (PendingAt alarm) = Gives Pending (record s { alarm = Some alarm })
slept s _ = Gives (Ready (Err NoMemory)) s

abbrev pub sleep_heard : {A O : Type 0} → Sleeper → Heard O → Step A Sleeper O (Poll (Result (Unit {0}) Error))
sleep_heard s (Plain reply) = slept s reply
sleep_heard s (Handed value) = Gives (Ready (Err NoMemory)) s

-- it polls itself, with its alarm
unfoldable pub sleep_polls : {A O : Type 0} → Sleeper → Step A Sleeper O (Poll (Result (Unit {0}) Error))
sleep_polls s = Does (Sleeping s.deadline s.alarm) (sleep_heard s)

-- giving it up calls nothing
unfoldable pub sleep_spends : {A O : Type 0} → Sleeper → Last A O
sleep_spends s = Gives tt tt

-- one that was not polled yet
abbrev pub unqueued : Reschedule
unqueued = record { queued = false }

-- a task that queued itself, or was refused
abbrev pub queued : {A O : Type 0} → Reschedule → CallReply → Step A Reschedule O (Poll (Result (Unit {0}) Error))
queued r Done = Gives Pending (record r { queued = true })
queued r (Refused error) = Gives (Ready (Err error)) r
queued r _ = Gives (Ready (Err NoMemory)) r

abbrev pub reschedule_heard : {A O : Type 0} → Reschedule → Heard O → Step A Reschedule O (Poll (Result (Unit {0}) Error))
reschedule_heard r (Plain reply) = queued r reply
reschedule_heard r (Handed value) = Gives (Ready (Err NoMemory)) r

abbrev pub reschedule_next : {A O : Type 0} → Bool → Reschedule → ℕ → Step A Reschedule O (Poll (Result (Unit {0}) Error))
reschedule_next true r task = Gives (Ready (Ok tt)) r
reschedule_next false r task = Does (Plainly (Wake task)) (reschedule_heard r)

-- it queues its own task once, and is ready then
unfoldable pub reschedule_polls : {A O : Type 0} → Reschedule → ℕ → Step A Reschedule O (Poll (Result (Unit {0}) Error))
reschedule_polls r task = reschedule_next r.queued r task

-- giving it up calls nothing
unfoldable pub reschedule_spends : {A O : Type 0} → Reschedule → Last A O
reschedule_spends r = Gives tt tt

-- an end that closes its context, and calls nothing else
abbrev pub closes : {A O : Type 0} → ℕ → Last A O
closes node = Spends (Plainly (CloseNode node)) (Gives tt tt)
