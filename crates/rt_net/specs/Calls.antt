-- The calls of a `Net`: for each what it may return, and the network after it as a function of the network before it,
-- of the arguments and of the answer.
use Rattle.std.specs.Prelude.{◌≡◌, ℕ, ◌+◌, ◌<◌, ◌≤◌, ◌⊎◌, true, false, List, [], ◌∷◌, ◌++◌, length, Option, Some, None, Result, Ok, Err, MatchOption, option_map, slice_get, slice_set, drop, is_some}
use Rattle.rt_base.specs.declared.addr.Addr.{Addr}
use Rattle.rt_base.specs.declared.addr.Ip.{Ip}
use Rattle.rt_base.specs.declared.addr.Ip.TheVariants.{V4}
use Rattle.rt_base.specs.declared.error.Error.{Error}
use Rattle.rt_base.specs.declared.error.Error.TheVariants.{BindFailed, ConnectionFailed, PortsExhausted, UnknownToken, NoMemory}
use Rattle.rt_base.specs.declared.poll.Poll.{Poll}
use Rattle.rt_base.specs.declared.poll.Poll.TheVariants.{Ready, Pending}
use Rattle.rt_bufs.specs.Chunked.{Chunked}
use Rattle.rt_net.specs.declared.acceptor.Connection.{Connection}
use Rattle.rt_net.specs.declared.tokens.Listener.{Listener}
use Rattle.rt_net.specs.declared.reply.Reply.{Reply}
use Rattle.rt_net.specs.declared.tokens.Sink.{Sink}
use Rattle.rt_net.specs.declared.tokens.Stream.{Stream}
use Rattle.rt_net.specs.Channel.{ChannelState, fresh, Sends, PollsSend, Receives, PollsReceive, Peeks, after_send, after_poll_send, after_recv, after_poll_recv}
use Rattle.rt_net.specs.Network.{NetworkState, ListenerState, AtSink, AtStream, at_sink, at_stream, live_listener, number_at, fresh_listener, closed_listener, with_connection, waiting_task, with_accepted, listener_at, after_closing, woken_by_closing}

-- The tokens of new halves.

abbrev pub idle_sink : ℕ → Sink
idle_sink n = record { number = n; sending = false }

abbrev pub idle_stream : ℕ → Stream
idle_stream n = record { number = n; receiving = false }

-- A network with other channels, and with other listeners.

abbrev pub with_channels : NetworkState → List ChannelState → NetworkState
with_channels s cs = record s { channels = cs }

abbrev pub with_listeners : NetworkState → List ListenerState → NetworkState
with_listeners s ls = record s { listeners = ls }

-- A channel is made.

abbrev pub opened : NetworkState → ℕ → NetworkState
opened s size = with_channels s (s.channels ++ fresh size ∷ [])

-- Calls on the halves of channels.

abbrev pub NetSends : NetworkState → ℕ → List ℕ → Reply (Result (Poll Unit) Error) → Type 0
NetSends s n bytes r =
    AtSink s.channels n ((r.value ≡ Err UnknownToken) × (r.wake ≡ None)) (λ c. Sends c bytes r.value r.wake) × (r.link ≡ None)

abbrev pub net_after_send : NetworkState → ℕ → List ℕ → ℕ → Result (Poll Unit) Error → NetworkState
net_after_send s n bytes task r = with_channels s (at_sink s.channels n (λ c. after_send c bytes task r))

abbrev pub NetPollsSend : NetworkState → ℕ → Result (Poll Unit) Error → Type 0
NetPollsSend s n r = AtSink s.channels n (r ≡ Err UnknownToken) (λ c. PollsSend c r)

abbrev pub net_after_poll_send : NetworkState → ℕ → ℕ → Result (Poll Unit) Error → NetworkState
net_after_poll_send s n task r = with_channels s (at_sink s.channels n (λ c. after_poll_send c task r))

abbrev pub NetReceives : NetworkState → ℕ → ℕ → Result (Reply (Poll Chunked)) Error → Type 0
NetReceives s n len r = AtStream s.channels n (r ≡ Err UnknownToken) (λ c. Receives c len r)

abbrev pub net_after_recv : NetworkState → ℕ → ℕ → ℕ → Result (Reply (Poll Chunked)) Error → NetworkState
net_after_recv s n len task r = with_channels s (at_stream s.channels n (λ c. after_recv c len task r))

abbrev pub NetPollsReceive : NetworkState → ℕ → Result (Poll Chunked) Error → Type 0
NetPollsReceive s n r = AtStream s.channels n (r ≡ Err UnknownToken) (λ c. PollsReceive c r)

abbrev pub net_after_poll_recv : NetworkState → ℕ → ℕ → Result (Poll Chunked) Error → NetworkState
net_after_poll_recv s n task r = with_channels s (at_stream s.channels n (λ c. after_poll_recv c task r))

abbrev pub NetPeeks : NetworkState → ℕ → ℕ → Result (List ℕ) Error → Type 0
NetPeeks s n len r = AtStream s.channels n (r ≡ Err UnknownToken) (λ c. Peeks c len r)

-- Listeners and connections. Dialers have the ports from 32,768 up to 60,999 of 127.0.0.1, in this order.

abbrev pub localhost : Ip
localhost = V4 (127 ∷ 0 ∷ 0 ∷ 1 ∷ [])

abbrev pub IsDialerAddress : Addr → Type 0
IsDialerAddress a = (a.ip ≡ localhost) × (32768 ≤ a.port) × (a.port < 61000)

-- a listener was bound at this address, at any time
abbrev pub IsBound : NetworkState → Addr → Type 0
IsBound s a = is_some (number_at s.addresses a) ≡ true

abbrev pub NetBinds : NetworkState → Addr → Result Listener Error → Type 0
NetBinds s a (Ok l) = (¬ IsDialerAddress a) × (¬ IsBound s a) × (l ≡ record { number = length s.listeners; address = a; accepting = false })
NetBinds s a (Err BindFailed) = IsDialerAddress a ⊎ IsBound s a
NetBinds s a (Err NoMemory) = Unit {0}
NetBinds s a (Err e) = ⊥

abbrev pub net_after_bind : NetworkState → Addr → Result Listener Error → NetworkState
net_after_bind s a (Ok _) = record s { addresses = s.addresses ++ a ∷ []; listeners = s.listeners ++ fresh_listener ∷ [] }
net_after_bind s a (Err _) = s

-- the connection from this port, whose channels are the next two: the first leads to the dialer
abbrev pub next_connection : NetworkState → Connection
next_connection s = record { dialer = record { ip = localhost; port = s.port }; sink = length s.channels; stream = length s.channels + 1 }

abbrev pub connected : NetworkState → Option ℕ → NetworkState
connected s None = record s { port = s.port + 1 }
connected s (Some n) = record s {
  port = s.port + 1;
  listeners = with_connection s.listeners n (next_connection s);
  channels = s.channels ++ fresh 65536 ∷ fresh 65536 ∷ [];
}

-- the task that waits for a connection at the listener of this number
abbrev pub task_at : NetworkState → Option ℕ → Option ℕ
task_at s None = None
task_at s (Some n) = waiting_task (live_listener s.listeners n)

abbrev pub NetDials : NetworkState → Addr → Result (Reply (Sink × Stream)) Error → Type 0
NetDials s a (Ok r) =
    (s.port < 61000) × (is_some (listener_at s a) ≡ true) × (r.wake ≡ task_at s (listener_at s a)) × (r.value ≡ (idle_sink (length s.channels + 1), idle_stream (length s.channels))) × (r.link ≡ None)
NetDials s a (Err PortsExhausted) = s.port ≡ 61000
NetDials s a (Err ConnectionFailed) = (s.port < 61000) × (listener_at s a ≡ None)
NetDials s a (Err NoMemory) = Unit {0}
NetDials s a (Err e) = ⊥

-- a dial that is refused where no listener is uses its port up too
abbrev pub net_after_dial : NetworkState → Addr → Result (Reply (Sink × Stream)) Error → NetworkState
net_after_dial s a (Ok _) = connected s (listener_at s a)
net_after_dial s a (Err ConnectionFailed) = connected s None
net_after_dial s a (Err _) = s

-- what an acceptor gets of a connection
abbrev pub handed_over : Connection → Addr × Sink × Stream
handed_over c = (c.dialer, idle_sink c.sink, idle_stream c.stream)

-- the first connection is taken, or the task waits
abbrev pub TakesConnection : ListenerState → Result (Poll (Addr × Sink × Stream)) Error → Type 0
TakesConnection l (Ok (Ready r)) = option_map handed_over (slice_get l.waiting 0) ≡ Some r
TakesConnection l (Ok Pending) = l.waiting ≡ []
TakesConnection l (Err e) = ⊥

abbrev pub NetAccepts : NetworkState → ℕ → Result (Poll (Addr × Sink × Stream)) Error → Type 0
NetAccepts s n r = MatchOption (live_listener s.listeners n) (r ≡ Err UnknownToken) (λ l. TakesConnection l r)

abbrev pub net_after_accept : NetworkState → ℕ → ℕ → Result (Poll (Addr × Sink × Stream)) Error → NetworkState
net_after_accept s n task r = with_listeners s (with_accepted s.listeners n task r)

-- a listener is closed, and the connections that wait at it
abbrev pub closed_at : NetworkState → ℕ → Option ListenerState → NetworkState
closed_at s n None = s
closed_at s n (Some l) = record s {
  listeners = slice_set s.listeners n (closed_listener l);
  channels = after_closing s.channels l.waiting;
  woken = woken_by_closing s.channels l.waiting;
}

abbrev pub net_after_close : NetworkState → ℕ → NetworkState
net_after_close s n = closed_at s n (live_listener s.listeners n)

-- the network once the next task that the last closing woke was returned
abbrev pub told : NetworkState → NetworkState
told s = record s { woken = drop 1 s.woken }
