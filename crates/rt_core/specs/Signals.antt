-- What signals, their signalers and completions do next.
use Rattle.std.specs.Prelude.{◌≡◌, ℕ, ℤ, Result, Ok, Err}
use Rattle.rt_base.specs.declared.error.Error.{Error}
use Rattle.rt_base.specs.declared.error.Error.TheVariants.{NoMemory}
use Rattle.rt_base.specs.declared.poll.Poll.{Poll}
use Rattle.rt_base.specs.declared.poll.Poll.TheVariants.{Ready, Pending}
use Rattle.rt_audit.specs.declared.call.Call.TheVariants.{Signaler, CloneSignal, SignalPoll, SignalClose, CompletionPoll, CompletionClose, Stopped}
use Rattle.rt_audit.specs.declared.reply.CallReply.{CallReply}
use Rattle.rt_audit.specs.declared.reply.CallReply.TheVariants.{Done, SignalAt, Value, ClosedWith, Pending as StillPending, Refused}
use Rattle.rt_model.specs.Turns.{Plainly, Heard, Plain, Handed}
use Rattle.rt_model.specs.Walk.{Step, Last, Does, Spends, Gives}
use Rattle.rt_world.specs.World.{World}
use Rattle.rt_world.specs.Calls.{IsRefused, Made}
use Rattle.rt_world.specs.Walked.{tells}
use Rattle.rt_core.specs.declared.signals.SignalKind.{SignalKind}
use Rattle.rt_core.specs.declared.signals.SignalKind.TheVariants.{Open, Resolved}

-- the answer of a poll, by what was heard of it
abbrev pub polled : {V : Type 0} → Result (Poll V) Error → Poll (Result V Error)
polled (Ok Pending) = Pending
polled (Ok (Ready value)) = Ready (Ok value)
polled (Err error) = Ready (Err error)

-- what a call answered that makes a signal: an open one, or one of a shutdown that began with this value
abbrev pub signal_replied : CallReply → Result SignalKind Error
signal_replied (SignalAt signal) = Ok (Open signal)
signal_replied (ClosedWith value) = Ok (Resolved value)
signal_replied (Refused error) = Err error
signal_replied _ = Err NoMemory

abbrev pub signal_heard : {O : Type 0} → Heard O → Result SignalKind Error
signal_heard (Plain reply) = signal_replied reply
signal_heard (Handed value) = Err NoMemory

-- a signaler and its first signal, which has the same number
abbrev pub group_replied : CallReply → Result (ℕ × SignalKind) Error
group_replied (SignalAt signal) = Ok (signal, Open signal)
group_replied (Refused error) = Err error
group_replied _ = Err NoMemory

abbrev pub group_heard : {O : Type 0} → Heard O → Result (ℕ × SignalKind) Error
group_heard (Plain reply) = group_replied reply
group_heard (Handed value) = Err NoMemory

unfoldable pub makes_group : {A O : Type 0} → Step A (Unit {0}) O (Result (ℕ × SignalKind) Error)
makes_group = tells (Plainly Signaler) group_heard

-- the reply that tells of a signal that is kept so
abbrev pub kind_reply : SignalKind → CallReply
kind_reply (Open signal) = SignalAt signal
kind_reply (Resolved value) = ClosedWith value

-- a further signal of an open one was made, or refused. One that holds its value is copied without a call
abbrev pub IsCloned : {A O G : Type 0} → SignalKind → World A O G → World A O G → Result SignalKind Error → Type 0
IsCloned (Open signal) old new (Ok kind) = Made old new (Plainly (CloneSignal signal)) (kind_reply kind)
IsCloned (Open signal) old new (Err error) = IsRefused old new (Plainly (CloneSignal signal)) error
IsCloned (Resolved value) old new result = (result ≡ Ok (Resolved value)) × (new ≡ old)

-- a further signal of the same group. That of a shutdown that began has no number, and is copied without a call
unfoldable pub clones : {A O : Type 0} → SignalKind → Step A (Unit {0}) O (Result SignalKind Error)
clones (Open signal) = tells (Plainly (CloneSignal signal)) signal_heard
clones (Resolved value) = Gives (Ok (Resolved value)) tt

-- a signal of the shutdown
unfoldable pub asks_stopped : {A O : Type 0} → Step A (Unit {0}) O (Result SignalKind Error)
asks_stopped = tells (Plainly Stopped) signal_heard

-- a signal was polled, and this was heard of it
abbrev pub shown_replied : {A L O : Type 0} → L → CallReply → Step A L O (Poll (Result ℤ Error))
shown_replied state (Value value) = Gives (Ready (Ok value)) state
shown_replied state StillPending = Gives Pending state
shown_replied state (Refused error) = Gives (Ready (Err error)) state
shown_replied state _ = Gives (Ready (Err NoMemory)) state

abbrev pub shown_heard : {A L O : Type 0} → L → Heard O → Step A L O (Poll (Result ℤ Error))
shown_heard state (Plain reply) = shown_replied state reply
shown_heard state (Handed value) = Gives (Ready (Err NoMemory)) state

-- an open signal polls its number, and any other gives its value
unfoldable pub signal_polls : {A O : Type 0} → SignalKind → Step A SignalKind O (Poll (Result ℤ Error))
signal_polls (Open signal) = Does (Plainly (SignalPoll signal)) (shown_heard (Open signal))
signal_polls (Resolved value) = Gives (Ready (Ok value)) (Resolved value)

unfoldable pub signal_spends : {A O : Type 0} → SignalKind → Last A O
signal_spends (Open signal) = Spends (Plainly (SignalClose signal)) (Gives tt tt)
signal_spends (Resolved value) = Gives tt tt

-- a completion was polled, and this was heard of it
abbrev pub met_replied : {A L O : Type 0} → L → CallReply → Step A L O (Poll (Result (Unit {0}) Error))
met_replied state Done = Gives (Ready (Ok tt)) state
met_replied state StillPending = Gives Pending state
met_replied state (Refused error) = Gives (Ready (Err error)) state
met_replied state _ = Gives (Ready (Err NoMemory)) state

abbrev pub met_heard : {A L O : Type 0} → L → Heard O → Step A L O (Poll (Result (Unit {0}) Error))
met_heard state (Plain reply) = met_replied state reply
met_heard state (Handed value) = Gives (Ready (Err NoMemory)) state

unfoldable pub completion_polls : {A O : Type 0} → ℕ → Step A ℕ O (Poll (Result (Unit {0}) Error))
completion_polls completion = Does (Plainly (CompletionPoll completion)) (met_heard completion)

unfoldable pub completion_spends : {A O : Type 0} → ℕ → Last A O
completion_spends completion = Spends (Plainly (CompletionClose completion)) (Gives tt tt)
