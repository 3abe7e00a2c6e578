-- The network as a record: its port counter, the listeners ever bound, and the channels ever made. A sink, a stream
-- and a listener have the number of their place in these lists. The rules are those of the source crate's
-- deterministic network.
use Rattle.std.specs.Prelude.{◌≡◌, ℕ, Bool, true, false, List, [], ◌∷◌, ◌++◌, Option, Some, None, Result, Ok, Err, if◌then◌else◌, slice_get, slice_set, option_to_list, MatchOption, drop, ◌||◌, is_some}
use Rattle.std.specs.List.{position_from}
use Rattle.rt_base.specs.contracts.addr.AddrPartialEq.TheImpl as by_address
use Rattle.rt_base.specs.declared.addr.Addr.{Addr}
use Rattle.rt_base.specs.declared.error.Error.{Error}
use Rattle.rt_base.specs.declared.poll.Poll.{Poll}
use Rattle.rt_base.specs.declared.poll.Poll.TheVariants.{Ready, Pending}
use Rattle.rt_net.specs.declared.acceptor.Connection.{Connection}
use Rattle.rt_net.specs.Channel.{ChannelState, receiver_task, closed_sink, closed_stream, given_up_send, given_up_recv}

-- `waiting` is the connections that were dialed and not accepted, in the order of their dials, and `task` the task
-- that waits for the next. `accepting` is whether an `accept` is started, until it is answered or given up; a dial wakes
-- its task and leaves it started.
pub record ListenerState : Type 0 where
  pub alive : Bool
  pub waiting : List Connection
  pub task : Option ℕ
  pub accepting : Bool

-- `port` is the port of the next dialer, `addresses` are those of the listeners, by their numbers, and `woken` the tasks
-- that the last closing of a listener woke and that were not told yet
pub record NetworkState : Type 0 where
  pub port : ℕ
  pub addresses : List Addr
  pub listeners : List ListenerState
  pub channels : List ChannelState
  pub woken : List ℕ

-- The object of a number, where it is live.

abbrev pub if_lives : {A : Type 0} → (A → Bool) → Option A → Option A
if_lives lives None = None
if_lives lives (Some x) = if lives x then Some x else None

abbrev pub has_sink : ChannelState → Bool
has_sink c = c.sink.alive

abbrev pub has_stream : ChannelState → Bool
has_stream c = c.stream.alive

abbrev pub is_alive : ListenerState → Bool
is_alive l = l.alive

abbrev pub live_sink : List ChannelState → ℕ → Option ChannelState
live_sink cs n = if_lives has_sink (slice_get cs n)

abbrev pub live_stream : List ChannelState → ℕ → Option ChannelState
live_stream cs n = if_lives has_stream (slice_get cs n)

abbrev pub live_listener : List ListenerState → ℕ → Option ListenerState
live_listener ls n = if_lives is_alive (slice_get ls n)

-- What a call on one half answers: by its channel where the half is live, and else what is answered for an unknown token.

abbrev pub AtSink : List ChannelState → ℕ → Type 0 → (ChannelState → Type 0) → Type 0
AtSink cs n unknown P = MatchOption (live_sink cs n) unknown P

abbrev pub AtStream : List ChannelState → ℕ → Type 0 → (ChannelState → Type 0) → Type 0
AtStream cs n unknown P = MatchOption (live_stream cs n) unknown P

-- What a call leaves: nothing changes where the object isn't live.

abbrev pub at : {A : Type 0} → List A → ℕ → (A → A) → Option A → List A
at xs n f None = xs
at xs n f (Some x) = slice_set xs n (f x)

abbrev pub at_sink : List ChannelState → ℕ → (ChannelState → ChannelState) → List ChannelState
at_sink cs n f = at cs n f (live_sink cs n)

abbrev pub at_stream : List ChannelState → ℕ → (ChannelState → ChannelState) → List ChannelState
at_stream cs n f = at cs n f (live_stream cs n)

-- the `send` of a sink is given up
abbrev pub with_given_up_send : List ChannelState → ℕ → List ChannelState
with_given_up_send cs n = at_sink cs n given_up_send

-- the `recv` of a stream is given up
abbrev pub with_given_up_recv : List ChannelState → ℕ → List ChannelState
with_given_up_recv cs n = at_stream cs n (λ c. given_up_recv c c.receiving)

-- a sink is closed
abbrev pub with_closed_sink : List ChannelState → ℕ → List ChannelState
with_closed_sink cs n = at_sink cs n closed_sink

-- a stream is closed
abbrev pub with_closed_stream : List ChannelState → ℕ → List ChannelState
with_closed_stream cs n = at_stream cs n closed_stream

-- the receiver that the closing of a sink wakes
abbrev pub receiver_of : Option ChannelState → Option ℕ
receiver_of None = None
receiver_of (Some c) = receiver_task c.receiver

abbrev pub sink_wakes : List ChannelState → ℕ → Option ℕ
sink_wakes cs n = receiver_of (live_sink cs n)

-- the sender that the closing of a stream wakes
abbrev pub sender_of : Option ChannelState → Option ℕ
sender_of None = None
sender_of (Some c) = c.sender

abbrev pub stream_wakes : List ChannelState → ℕ → Option ℕ
stream_wakes cs n = sender_of (live_stream cs n)

-- the tasks that wait to receive and to send
abbrev pub waiting_halves : Option ChannelState → Option ℕ × Option ℕ
waiting_halves None = (None, None)
waiting_halves (Some c) = (receiver_task c.receiver, c.sender)

-- a task waits to receive or to send, and one waits for a connection
abbrev pub is_waited_at : ChannelState → Bool
is_waited_at c = is_some (receiver_task c.receiver) || is_some c.sender

abbrev pub has_acceptor : ListenerState → Bool
has_acceptor l = is_some l.task

-- The closing of connections, one after the other; and the tasks that this wakes, a receiver before a sender.

abbrev pub with_closed : List ChannelState → Connection → List ChannelState
with_closed cs c = with_closed_stream (with_closed_sink cs c.sink) c.stream

abbrev pub after_closing : List ChannelState → List Connection → List ChannelState
after_closing cs [] = cs
after_closing cs (c ∷ rest) = after_closing (with_closed cs c) rest

abbrev pub woken_by_closing : List ChannelState → List Connection → List ℕ
woken_by_closing cs [] = []
woken_by_closing cs (c ∷ rest) =
    option_to_list (sink_wakes cs c.sink) ++ (option_to_list (stream_wakes (with_closed_sink cs c.sink) c.stream) ++ woken_by_closing (with_closed cs c) rest)

-- Listeners.

-- a listener where nothing waits
abbrev pub fresh_listener : ListenerState
fresh_listener = record { alive = true; waiting = []; task = None; accepting = false }

-- a listener that was closed: its address stays taken
abbrev pub closed_listener : ListenerState → ListenerState
closed_listener l = record l { alive = false; waiting = []; task = None; accepting = false }

-- the first connection, or that there is none
abbrev pub Accepts : ListenerState → Poll Connection → Type 0
Accepts l (Ready c) = slice_get l.waiting 0 ≡ Some c
Accepts l Pending = l.waiting ≡ []

-- the listener after it: the connection is taken, or the task waits
abbrev pub after_accept : {A : Type 0} → ListenerState → ℕ → Poll A → ListenerState
after_accept l task (Ready _) = record l { waiting = drop 1 l.waiting; task = None; accepting = false }
after_accept l task Pending = record l { task = Some task; accepting = true }

-- the addresses are the same
abbrev pub addr_eq : Addr → Addr → Bool
addr_eq = by_address.ghosts.eq

-- the number of the listener that was bound at an address, at any time
abbrev pub number_at : List Addr → Addr → Option ℕ
number_at xs a = position_from (λ b. addr_eq b a) 0 xs

-- and where it is live
abbrev pub if_live : List ListenerState → Option ℕ → Option ℕ
if_live ls None = None
if_live ls (Some n) = if is_some (live_listener ls n) then Some n else None

abbrev pub listener_at : NetworkState → Addr → Option ℕ
listener_at s a = if_live s.listeners (number_at s.addresses a)

-- the task that waits for a connection
abbrev pub waiting_task : Option ListenerState → Option ℕ
waiting_task None = None
waiting_task (Some l) = l.task

abbrev pub at_listener : List ListenerState → ℕ → (ListenerState → ListenerState) → List ListenerState
at_listener ls n f = at ls n f (live_listener ls n)

-- a connection is taken, or the task waits
abbrev pub with_accepted : {A : Type 0} → List ListenerState → ℕ → ℕ → Result (Poll A) Error → List ListenerState
with_accepted ls n task (Ok p) = at_listener ls n (λ l. after_accept l task p)
with_accepted ls n task (Err _) = ls

-- a connection waits at a listener, and the task that waited for one is woken
abbrev pub with_connection : List ListenerState → ℕ → Connection → List ListenerState
with_connection ls n c = at_listener ls n (λ l. record l { waiting = l.waiting ++ c ∷ []; task = None })

-- the `accept` is given up
abbrev pub given_up_accept : ListenerState → ListenerState
given_up_accept l = record l { task = None; accepting = false }

abbrev pub with_given_up_accept : List ListenerState → ℕ → List ListenerState
with_given_up_accept ls n = at_listener ls n given_up_accept

-- Who waits. A parked `accept` is a started one at a live listener where no connection waits, and a started one where
-- none waits is parked. Only a live listener has an `accept` started.
pub record IsQuietListener (l : ListenerState) : Type 0 where
  pub task : (t : ℕ) → l.task ≡ Some t → (l.waiting ≡ []) × (l.alive ≡ true) × (l.accepting ≡ true)
  pub accepting : l.accepting ≡ true → l.waiting ≡ [] → (t : ℕ) × (l.task ≡ Some t)
  pub started : l.accepting ≡ true → l.alive ≡ true
