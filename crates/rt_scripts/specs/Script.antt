-- What a script does, line by line.
use Rattle.std.specs.Prelude.{◌≡◌, ℕ, ◌+◌, ◌%◌, ◌^◌, max, Bool, true, false, List, [], ◌∷◌, codes, drop, Option, Some, None, Result, Ok, Err, ℤ, pos, negsuc}
use Rattle.rt_base.specs.declared.error.Error.{Error}
use Rattle.rt_base.specs.declared.error.Error.TheVariants.{Exited, Closed as IsClosed, Aborted, Timeout, ClockOverflow, UnknownToken, TooManyTasks, Metric, NoMemory as LacksMemory}
use Rattle.rt_base.specs.declared.poll.Poll.{Poll}
use Rattle.rt_base.specs.declared.poll.Poll.TheVariants.{Ready as IsReady, Pending as IsPending}
use Rattle.rt_audit.specs.declared.call.Call.TheVariants.{AbortTask, CloseNode}
use Rattle.rt_audit.specs.declared.reply.CallReply.TheVariants.{Done, Refused}
use Rattle.rt_model.specs.declared.answer.Answer.{Answer}
use Rattle.rt_model.specs.declared.answer.Answer.TheVariants.{Pending, Ready, Panicked, NoMemory}
use Rattle.rt_model.specs.Lists.{find, without}
use Rattle.rt_model.specs.Turns.{Heard, Plain, Plainly, with_task}
use Rattle.rt_model.specs.Walk.{Step, Last, Does, Spends, Gives, then, followed_by}
use Rattle.rt_model.specs.Tied.{TaskSteps}
use Rattle.rt_core.specs.Contexts.{Context, childs, spawns as spawns_on}
use Rattle.rt_core.specs.Handles.{TaskHandle, task_polls, task_spends, handle_aborts, aborted}
use Rattle.rt_core.specs.Sleeper.{Sleeper}
use Rattle.rt_core.specs.Pollers.{sleep_for, sleep_until, sleep_polls, sleep_spends, reschedule_polls, reschedule_spends, unqueued, closes}
use Rattle.rt_core.specs.Drawing.{asks_u64}
use Rattle.rt_core.specs.Signals.{asks_stopped, signal_polls, signal_spends}
use Rattle.rt_core.specs.Stopping.{stop_polls, stop_spends}
use Rattle.rt_core.specs.declared.signals.SignalKind.{SignalKind}
use Rattle.rt_core.specs.declared.stop.Stop.{Stop}
use Rattle.rt_core.specs.declared.stop.Stopping.TheVariants.{Begins}
use Rattle.rt_core.specs.declared.yields.Reschedule.{Reschedule}
use Rattle.rt_scenario.specs.declared.line.Line.{Line}
use Rattle.rt_scenario.specs.declared.line.Line.TheVariants.{Sleep, Until, Yield, Draw, Pend, End, EndLast, Panic, Spawn, Abort, AbortSelf, Drop, Join, Within, Select, Stopped, Wait, Stop as Shutdown, StopWithin as ShutdownWithin}
use Rattle.rt_scenario.specs.declared.scenario.ScriptText.{ScriptText}
use Rattle.rt_scenario.specs.Texts.{text_at}
use Rattle.rt_scripts.specs.Program.{name_at, word_at, choices_in}
use Rattle.rt_scripts.specs.declared.held.Held.{Held}
use Rattle.rt_scripts.specs.declared.held.Held.TheVariants.{Handle, Signal}
use Rattle.rt_scripts.specs.declared.script.Waits.{Waits}
use Rattle.rt_scripts.specs.declared.script.Waits.TheVariants.{Nothing, Sleeps, Yields, Limits, Chooses}

-- a script that runs: all scripts, its own text, the place of its line, the value of the one before, what it waits for, the stop of its
-- run that is under way, what it holds by the places of the names, for how many names it has places, and its context
pub record Script : Type 0 where
  pub program : List ScriptText
  pub text : ScriptText
  pub place : ℕ
  pub last : ℤ
  pub waits : Waits
  pub stop : Option Stop
  pub held : List (ℕ × Held)
  pub places : ℕ
  pub context : Context

abbrev pub Next : Type 0
Next = Step Script Script ℤ (Answer ℤ)

abbrev pub Polled : Type 0
Polled = Poll (Result (Unit {0}) Error)

-- at its first line
abbrev pub started : List ScriptText → ℕ → Context → Script
started program script context = record { program = program; text = text_at program script; place = 0; last = pos 0; waits = Nothing; stop = None; held = []; places = 0; context = context }

abbrev pub waiting : Script → Waits → Script
waiting s waits = record s { waits = waits }

-- past its line, which left this value
abbrev pub passed : Script → ℤ → Script
passed s value = record s { place = s.place + 1; last = value; waits = Nothing }

-- without what a name held, and with this under a name that holds nothing
abbrev pub loosed : Script → ℕ → Script
loosed s at = record s { held = without at s.held }

abbrev pub put_back : Script → ℕ → Held → Script
put_back s at held = record s { held = with_task at held s.held }

-- with this in place of what a name held
abbrev pub bound : Script → ℕ → Held → Script
bound s at held = put_back (loosed s at) at held

-- the handle that a name holds, and the signal
abbrev pub as_handle : Option Held → Option (TaskHandle ℤ)
as_handle (Some (Handle handle)) = Some handle
as_handle held = None

abbrev pub handle_at : Script → ℕ → Option (TaskHandle ℤ)
handle_at s at = as_handle (find at s.held)

abbrev pub as_signal : Option Held → Option SignalKind
as_signal (Some (Signal signal)) = Some signal
as_signal held = None

abbrev pub signal_at : Script → ℕ → Option SignalKind
signal_at s at = as_signal (find at s.held)

-- with a place for this name
abbrev pub roomed : Script → ℕ → Script
roomed s at = record s { places = max s.places (at + 1) }

-- the value that a refusal leaves: minus its code
abbrev pub value_of : Error → ℤ
value_of Exited = negsuc 0
value_of IsClosed = negsuc 1
value_of Aborted = negsuc 2
value_of Timeout = negsuc 3
value_of ClockOverflow = negsuc 10
value_of UnknownToken = negsuc 11
value_of TooManyTasks = negsuc 12
value_of (Metric kind) = negsuc 13
value_of error = negsuc 22

-- the value of a name that isn't held, or holds another kind
abbrev pub unheld : ℤ
unheld = negsuc 98

-- a refusal leaves its value, and the script goes on
abbrev pub refused : Script → (Script → Next) → Error → Next
refused s on LacksMemory = Gives NoMemory s
refused s on error = on (passed s (value_of error))

-- its sleep answered so
abbrev pub slept : Script → (Script → Next) → Polled → Sleeper → Next
slept s on IsPending sleep = Gives Pending (waiting s (Sleeps sleep))
slept s on (IsReady (Ok over)) sleep = on (passed s (pos 0))
slept s on (IsReady (Err error)) sleep = Gives NoMemory (waiting s Nothing)

-- its sleep, where it doesn't end too late
abbrev pub begun_sleep : Script → (Script → Next) → Result Sleeper Error → Next
begun_sleep s on (Ok sleep) = then (sleep_polls sleep) (slept s on)
begun_sleep s on (Err error) = on (passed s (negsuc 10))

-- the sleep under way, or a new one
abbrev pub sleep_in : Waits → Result Sleeper Error → Result Sleeper Error
sleep_in (Sleeps sleep) fresh = Ok sleep
sleep_in waits fresh = fresh

unfoldable pub sleeps : Script → (Script → Next) → Result Sleeper Error → Next
sleeps s on fresh = begun_sleep s on (sleep_in s.waits fresh)

-- its turn of the others answered so
abbrev pub yielded : Script → (Script → Next) → Polled → Reschedule → Next
yielded s on IsPending turn = Gives Pending (waiting s (Yields turn))
yielded s on (IsReady (Ok over)) turn = on (passed s (pos 0))
yielded s on (IsReady (Err error)) turn = Gives NoMemory (waiting s Nothing)

-- the turn under way, or a new one
abbrev pub turn_in : Waits → Reschedule
turn_in (Yields turn) = turn
turn_in waits = unqueued

unfoldable pub yields : Script → (Script → Next) → ℕ → Next
yields s on task = then (reschedule_polls (turn_in s.waits) task) (yielded s on)

-- what a name holds is given up
abbrev pub held_spends : Held → Last Script ℤ
held_spends (Handle handle) = task_spends handle
held_spends (Signal signal) = signal_spends signal

abbrev pub releases : Option Held → Last Script ℤ
releases None = Gives tt tt
releases (Some held) = held_spends held

-- a script was spawned on a context
abbrev pub spawned : Script → (Script → Next) → ℕ → Context → Result (TaskHandle ℤ) Error → Next
spawned s on at context (Ok handle) = on (passed (bound s at (Handle handle)) (pos 0))
spawned s on at context (Err error) = Spends (Plainly (CloseNode context.node)) (refused s on error)

-- a child was made for it
abbrev pub placed : Script → (Script → Next) → ℕ → ℕ → Result Context Error → Next
placed s on at script (Ok context) = then (spawns_on context (started s.program script)) (λ told u. spawned s on at context told)
placed s on at script (Err error) = refused s on error

-- a spawn first gives up what its name holds, also where it is refused then
unfoldable pub spawns : Script → (Script → Next) → ℕ → ℕ → Next
spawns s on at script =
    followed_by (releases (find at s.held))
    (then (childs s.context (name_at s.text at)) (λ made u. placed (roomed (loosed s at) at) on at script made))

-- what a join of this handle received
abbrev pub joined : Script → (Script → Next) → ℕ → Poll (Result ℤ Error) → TaskHandle ℤ → Next
joined s on at IsPending handle = Gives Pending (bound s at (Handle handle))
joined s on at (IsReady (Ok value)) handle = followed_by (task_spends handle) (on (passed (loosed s at) value))
joined s on at (IsReady (Err error)) handle = followed_by (task_spends handle) (refused (loosed s at) on error)

-- a handle is given up once it is joined
abbrev pub joins_held : Script → (Script → Next) → ℕ → Option (TaskHandle ℤ) → Next
joins_held s on at None = on (passed s unheld)
joins_held s on at (Some handle) = then (task_polls handle) (joined s on at)

unfoldable pub joins : Script → (Script → Next) → ℕ → Next
joins s on at = joins_held s on at (handle_at s at)

-- a join whose time is over gives its handle up, but doesn't abort
abbrev pub timed : Script → (Script → Next) → ℕ → TaskHandle ℤ → Polled → Sleeper → Next
timed s on at handle IsPending sleep = Gives Pending (waiting (put_back s at (Handle handle)) (Limits at sleep))
timed s on at handle (IsReady (Ok over)) sleep = followed_by (task_spends handle) (refused s on Timeout)
timed s on at handle (IsReady (Err error)) sleep = Gives NoMemory (put_back s at (Handle handle))

-- what it received of its handle. Its sleep is polled where the handle isn't ready
abbrev pub limited : Script → (Script → Next) → ℕ → Sleeper → Poll (Result ℤ Error) → TaskHandle ℤ → Next
limited s on at sleep IsPending handle = then (sleep_polls sleep) (timed s on at handle)
limited s on at sleep (IsReady (Ok value)) handle = followed_by (task_spends handle) (on (passed s value))
limited s on at sleep (IsReady (Err error)) handle = followed_by (task_spends handle) (refused s on error)

-- a join that takes at most so long, of a handle that was taken out
unfoldable pub limits : Script → (Script → Next) → ℕ → Sleeper → TaskHandle ℤ → Next
limits s on at sleep handle = then (task_polls handle) (limited s on at sleep)

-- the limit under way, or a new one
abbrev pub limit_in : Waits → Result Sleeper Error → Result Sleeper Error
limit_in (Limits at sleep) fresh = Ok sleep
limit_in waits fresh = fresh

abbrev pub begun_limit : Script → (Script → Next) → ℕ → TaskHandle ℤ → Result Sleeper Error → Next
begun_limit s on at handle (Ok sleep) = limits s on at sleep handle
begun_limit s on at handle (Err error) = followed_by (task_spends handle) (refused s on error)

abbrev pub limits_held : Script → (Script → Next) → ℕ → Result Sleeper Error → Option (TaskHandle ℤ) → Next
limits_held s on at fresh None = on (passed s unheld)
limits_held s on at fresh (Some handle) = begun_limit (waiting (loosed s at) Nothing) on at handle (limit_in s.waits fresh)

unfoldable pub joins_within : Script → (Script → Next) → ℕ → Result Sleeper Error → Next
joins_within s on at fresh = limits_held s on at fresh (handle_at s at)

abbrev pub aborts_held : Script → (Script → Next) → ℕ → Option (TaskHandle ℤ) → Next
aborts_held s on at None = on (passed s unheld)
aborts_held s on at (Some handle) = followed_by (handle_aborts handle) (on (passed (bound s at (Handle (aborted handle))) (pos 0)))

unfoldable pub aborts : Script → (Script → Next) → ℕ → Next
aborts s on at = aborts_held s on at (handle_at s at)

abbrev pub drops_held : Script → (Script → Next) → ℕ → Option (TaskHandle ℤ) → Next
drops_held s on at None = on (passed s unheld)
drops_held s on at (Some handle) = followed_by (task_spends handle) (on (passed (loosed s at) (pos 0)))

unfoldable pub drops : Script → (Script → Next) → ℕ → Next
drops s on at = drops_held s on at (handle_at s at)

-- a script that aborts itself goes on in this poll
abbrev pub self_aborted : Script → (Script → Next) → Heard ℤ → Next
self_aborted s on (Plain Done) = on (passed s (pos 0))
self_aborted s on (Plain (Refused error)) = refused s on error
self_aborted s on heard = Gives NoMemory s

unfoldable pub aborts_itself : Script → (Script → Next) → ℕ → Next
aborts_itself s on task = Does (Plainly (AbortTask task)) (self_aborted s on)

-- a number was drawn, of which the rest by 2^63 is kept
abbrev pub drew : Script → (Script → Next) → Result ℕ Error → Next
drew s on (Ok number) = on (passed s (pos (number % 2 ^ 63)))
drew s on (Err error) = refused s on error

unfoldable pub draws : Script → (Script → Next) → Next
draws s on = then asks_u64 (λ drawn u. drew s on drawn)

-- a signal of the shutdown was made
abbrev pub signaled : Script → (Script → Next) → ℕ → Result SignalKind Error → Next
signaled s on at (Ok signal) = on (passed (put_back s at (Signal signal)) (pos 0))
signaled s on at (Err error) = refused s on error

-- what a name holds is given up first
unfoldable pub asks : Script → (Script → Next) → ℕ → Next
asks s on at =
    followed_by (releases (find at s.held)) (then asks_stopped (λ made u. signaled (roomed (loosed s at) at) on at made))

-- what this signal showed. It stays under its name
abbrev pub shown : Script → (Script → Next) → ℕ → Poll (Result ℤ Error) → SignalKind → Next
shown s on at IsPending signal = Gives Pending (bound s at (Signal signal))
shown s on at (IsReady (Ok value)) signal = on (passed (bound s at (Signal signal)) value)
shown s on at (IsReady (Err error)) signal = refused (bound s at (Signal signal)) on error

abbrev pub awaits_held : Script → (Script → Next) → ℕ → Option SignalKind → Next
awaits_held s on at None = on (passed s unheld)
awaits_held s on at (Some signal) = then (signal_polls signal) (shown s on at)

unfoldable pub awaits : Script → (Script → Next) → ℕ → Next
awaits s on at = awaits_held s on at (signal_at s at)

-- what its stop returned. It is given up then
abbrev pub stopped : Script → (Script → Next) → Polled → Stop → Next
stopped s on IsPending stop = Gives Pending (record s { stop = Some stop })
stopped s on (IsReady (Ok over)) stop = followed_by (stop_spends stop) (on (passed s (pos 0)))
stopped s on (IsReady (Err error)) stop = followed_by (stop_spends stop) (refused s on error)

-- a stop that was taken out
unfoldable pub stop_goes : Script → (Script → Next) → ℕ → ℕ → Stop → Next
stop_goes s on time task stop = then (stop_polls stop time task stop.stage) (stopped s on)

-- one that begins on this context
abbrev pub begun_stop : Script → (Script → Next) → ℤ → Option ℕ → ℕ → ℕ → Result Context Error → Next
begun_stop s on value limit time task (Ok context) =
    stop_goes s on time task (record { context = context; value = value; timeout = limit; stage = Begins })
begun_stop s on value limit time task (Err error) = refused s on error

-- the stop under way, or a new one on a child
abbrev pub stops_by : Script → (Script → Next) → ℤ → Option ℕ → ℕ → ℕ → Option Stop → Next
stops_by s on value limit time task None =
    then (childs s.context (codes "stop")) (λ made u. begun_stop s on value limit time task made)
stops_by s on value limit time task (Some stop) = stop_goes s on time task stop

unfoldable pub stops : Script → (Script → Next) → ℤ → Option ℕ → ℕ → ℕ → Next
stops s on value limit time task = stops_by (record s { stop = None }) on value limit time task s.stop

-- whether these names all hold handles, and what they hold once each was taken out and put back. A name that is there twice
-- holds none at its second place
abbrev pub tried_by : ℕ → Option (TaskHandle ℤ) → List (ℕ × Held) → Bool × List (ℕ × Held) → Bool × List (ℕ × Held)
tried_by at None held more = (false, held)
tried_by at (Some handle) held (all, rest) = (all, with_task at (Handle handle) rest)

unfoldable pub tried : List ℕ → List (ℕ × Held) → Bool × List (ℕ × Held)
tried [] held = (true, held)
tried (at ∷ ats) held = tried_by at (as_handle (find at held)) held (tried ats (without at held))

-- a script tried these names so
abbrev pub Tries : List ℕ → Script → Bool → Script → Type 0
Tries ats s all new = (all ≡ (tried ats s.held).0) × (new ≡ record s { held = (tried ats s.held).1 })

abbrev pub Choosing : Type 0
Choosing = Step Script Script ℤ (Poll (Result ℤ Error))

-- the handle of a name is polled, and stays
unfoldable pub polls_name : Script → ℕ → Option (TaskHandle ℤ) → Choosing
polls_name s at None = Gives IsPending s
polls_name s at (Some handle) = then (task_polls handle) (λ told handle. Gives told (bound s at (Handle handle)))

abbrev pub unless_ready : (Script → Choosing) → Poll (Result ℤ Error) → Script → Choosing
unless_ready next IsPending s = next s
unless_ready next (IsReady answer) s = Gives (IsReady answer) s

-- the handles of these names are polled in order, up to the first that is ready
unfoldable pub polls_chosen : List ℕ → Script → Choosing
polls_chosen [] s = Gives IsPending s
polls_chosen (at ∷ ats) s = then (polls_name s at (handle_at s at)) (unless_ready (polls_chosen ats))

abbrev pub aborts_of : Option (TaskHandle ℤ) → Last Script ℤ
aborts_of None = Gives tt tt
aborts_of (Some handle) = handle_aborts handle

abbrev pub aborted_at : ℕ → Option (TaskHandle ℤ) → List (ℕ × Held) → List (ℕ × Held)
aborted_at at None held = held
aborted_at at (Some handle) held = with_task at (Handle (aborted handle)) (without at held)

-- the tasks of these names are aborted in order, and what the names hold then
unfoldable pub aborts_chosen : List ℕ → List (ℕ × Held) → Last Script ℤ
aborts_chosen [] held = Gives tt tt
aborts_chosen (at ∷ ats) held =
    followed_by (aborts_of (as_handle (find at held))) (aborts_chosen ats (aborted_at at (as_handle (find at held)) held))

unfoldable pub aborted_in : List ℕ → List (ℕ × Held) → List (ℕ × Held)
aborted_in [] held = held
aborted_in (at ∷ ats) held = aborted_in ats (aborted_at at (as_handle (find at held)) held)

-- what these names hold is given up in order, and what names hold then
unfoldable pub releases_chosen : List ℕ → List (ℕ × Held) → Last Script ℤ
releases_chosen [] held = Gives tt tt
releases_chosen (at ∷ ats) held = followed_by (releases (find at held)) (releases_chosen ats (without at held))

unfoldable pub freed_of : List ℕ → List (ℕ × Held) → List (ℕ × Held)
freed_of [] held = held
freed_of (at ∷ ats) held = freed_of ats (without at held)

-- a choice is left: its tasks are aborted, and then its handles given up
abbrev pub leaves_choice : List ℕ → List (ℕ × Held) → Last Script ℤ
leaves_choice ats held = followed_by (aborts_chosen ats held) (releases_chosen ats (aborted_in ats held))

abbrev pub unchosen : List ℕ → Script → Script
unchosen ats s = record s { held = freed_of ats (aborted_in ats s.held) }

-- a choice whose handles were polled so: where one is ready all are let go
abbrev pub decides : List ℕ → Poll (Result ℤ Error) → Script → Choosing
decides ats IsPending s = Gives IsPending s
decides ats (IsReady answer) s = followed_by (leaves_choice ats s.held) (Gives (IsReady answer) (unchosen ats s))

unfoldable pub polls_choice : List ℕ → Script → Choosing
polls_choice ats s = then (polls_chosen ats s) (decides ats)

-- past a line that was answered so
abbrev pub settled : Script → (Script → Next) → Result ℤ Error → Next
settled s on (Ok value) = on (passed s value)
settled s on (Err error) = refused s on error

-- a choice was polled so
abbrev pub chosen : (Script → Next) → ℕ → ℕ → Poll (Result ℤ Error) → Script → Next
chosen on first past IsPending s = Gives Pending (waiting s (Chooses first past))
chosen on first past (IsReady answer) s = settled s on answer

unfoldable pub goes_choosing : Script → (Script → Next) → ℕ → ℕ → Next
goes_choosing s on first past = then (polls_choice (choices_in s.text first past) s) (chosen on first past)

-- a choice begins where its names differ and all hold handles
abbrev pub begun_choice : Script → (Script → Next) → ℕ → ℕ → Bool × List (ℕ × Held) → Next
begun_choice s on first past (false, held) = on (passed (record s { held = held }) unheld)
begun_choice s on first past (true, held) = goes_choosing (record s { held = held }) on first past

-- the choice that is under way
abbrev pub range_of : Waits → Option (ℕ × ℕ)
range_of (Chooses first past) = Some (first, past)
range_of waits = None

-- it goes on, or a new one begins
abbrev pub chooses_by : Script → (Script → Next) → ℕ → ℕ → Option (ℕ × ℕ) → Next
chooses_by s on first past None = begun_choice s on first past (tried (choices_in s.text first past) s.held)
chooses_by s on first past (Some range) = goes_choosing s on range.0 range.1

unfoldable pub chooses : Script → (Script → Next) → ℕ → ℕ → Next
chooses s on first past = chooses_by s on first past (range_of s.waits)

-- the names of the choice that is under way
abbrev pub choice_in : ScriptText → Option (ℕ × ℕ) → List ℕ
choice_in text None = []
choice_in text (Some range) = choices_in text range.0 range.1

-- the lines from a place on, at a time and under a number. The end of the lines acts as `end 0`
unfoldable pub goes_on : List Line → Script → ℕ → ℕ → Next
goes_on [] s time task = Gives (Ready (pos 0)) s
goes_on (End value ∷ lines) s time task = Gives (Ready value) s
goes_on (EndLast ∷ lines) s time task = Gives (Ready s.last) s
goes_on (Pend ∷ lines) s time task = Gives Pending s
goes_on (Panic word ∷ lines) s time task = Gives (Panicked (word_at s.text word)) s
goes_on (Yield ∷ lines) s time task = yields s (λ next. goes_on lines next time task) task
goes_on (Draw ∷ lines) s time task = draws s (λ next. goes_on lines next time task)
goes_on (Sleep duration ∷ lines) s time task = sleeps s (λ next. goes_on lines next time task) (sleep_for time duration)
goes_on (Until moment ∷ lines) s time task = sleeps s (λ next. goes_on lines next time task) (sleep_until moment)
goes_on (Spawn at script ∷ lines) s time task = spawns s (λ next. goes_on lines next time task) at script
goes_on (Join at ∷ lines) s time task = joins s (λ next. goes_on lines next time task) at
goes_on (Within at limit ∷ lines) s time task = joins_within s (λ next. goes_on lines next time task) at (sleep_for time limit)
goes_on (Abort at ∷ lines) s time task = aborts s (λ next. goes_on lines next time task) at
goes_on (AbortSelf ∷ lines) s time task = aborts_itself s (λ next. goes_on lines next time task) task
goes_on (Drop at ∷ lines) s time task = drops s (λ next. goes_on lines next time task) at
goes_on (Select first past ∷ lines) s time task = chooses s (λ next. goes_on lines next time task) first past
goes_on (Stopped at ∷ lines) s time task = asks s (λ next. goes_on lines next time task) at
goes_on (Wait at ∷ lines) s time task = awaits s (λ next. goes_on lines next time task) at
goes_on (Shutdown value ∷ lines) s time task = stops s (λ next. goes_on lines next time task) value None time task
goes_on (ShutdownWithin value limit ∷ lines) s time task = stops s (λ next. goes_on lines next time task) value (Some limit) time task

abbrev pub lines_from : Script → List Line
lines_from s = drop s.place s.text.lines

-- a poll goes on from the script's place
abbrev pub polled : Script → ℕ → ℕ → Next
polled s time task = goes_on (lines_from s) s time task

-- what names hold is given up in order of the names
unfoldable pub releases_all : List (ℕ × Held) → Last Script ℤ → Last Script ℤ
releases_all [] next = next
releases_all (h ∷ held) next = followed_by (held_spends h.1) (releases_all held next)

-- what it waits for is given up: of a join with a limit its handle. A choice was left before
abbrev pub stops_waiting : Waits → List (ℕ × Held) → Last Script ℤ
stops_waiting Nothing held = Gives tt tt
stops_waiting (Sleeps sleep) held = sleep_spends sleep
stops_waiting (Yields turn) held = reschedule_spends turn
stops_waiting (Limits at sleep) held = releases (find at held)
stops_waiting (Chooses first past) held = Gives tt tt

-- what names hold then
abbrev pub left_by : Waits → List (ℕ × Held) → List (ℕ × Held)
left_by (Limits at sleep) held = without at held
left_by waits held = held

-- so is a stop that is under way
abbrev pub gives_stop_up : Option Stop → Last Script ℤ
gives_stop_up None = Gives tt tt
gives_stop_up (Some stop) = stop_spends stop

-- an end gives up what is under way, then what names hold, and closes the context
abbrev pub ended_behind : Script → Last Script ℤ
ended_behind s =
    followed_by (gives_stop_up s.stop)
    (followed_by (stops_waiting s.waits s.held) (releases_all (left_by s.waits s.held) (closes s.context.node)))

abbrev pub ended : Script → Last Script ℤ
ended s = followed_by (leaves_choice (choice_in s.text (range_of s.waits)) s.held) (ended_behind (unchosen (choice_in s.text (range_of s.waits)) s))

abbrev pub script_steps : TaskSteps Script ℤ
script_steps = record { next = λ s time task. polled s time task; last = λ s time number. ended s }
