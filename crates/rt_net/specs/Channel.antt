-- One channel as a record: all bytes ever sent, two counts, and who waits. The rules are those of the source
-- crate's in-memory channel (`mocks::Channel`).
use Rattle.std.specs.Prelude.{◌≡◌, ℕ, ◌+◌, ◌-◌, ◌<◌, ◌≤◌, min, max, Bool, true, false, ◌&&◌, ◌||◌, not, List, [], ◌++◌, length, take, drop, Option, Some, None, Result, Ok, Err, if◌then◌else◌, nat_le, unwrap_or}
use Rattle.rt_base.specs.declared.error.Error.{Error}
use Rattle.rt_base.specs.declared.error.Error.TheVariants.{Closed, SendFailed, RecvFailed, NoMemory}
use Rattle.rt_base.specs.declared.poll.Poll.{Poll}
use Rattle.rt_base.specs.declared.poll.Poll.TheVariants.{Ready, Pending}
use Rattle.rt_bufs.specs.Chunked.{Chunked}
use Rattle.rt_net.specs.declared.half.Half.{Half}
use Rattle.rt_net.specs.declared.half.Parked.{Parked}
use Rattle.rt_net.specs.declared.reply.Reply.{Reply}

-- `put` is all bytes ever sent, `taken` how many were moved out of the channel to the stream, and `read` how many
-- `recv` answered. `receiver` is the parked `recv`, `sender` the task of the parked `send`. `receiving` is the
-- length of a started `recv` and `sending` whether a `send` is started, until it is answered or given up.
pub record ChannelState : Type 0 where
  pub put : List ℕ
  pub taken : ℕ
  pub read : ℕ
  pub buffer_size : ℕ
  pub receiver : Option Parked
  pub sender : Option ℕ
  pub sink : Half
  pub stream : Half
  pub receiving : Option ℕ
  pub sending : Bool

-- how many bytes are in the channel
abbrev pub left : ChannelState → ℕ
left c = length c.put - c.taken

-- how many bytes the stream holds
abbrev pub held : ChannelState → ℕ
held c = c.taken - c.read

-- the bytes that were not answered yet, those held first
abbrev pub unread : ChannelState → List ℕ
unread c = drop c.read c.put

-- the half is neither closed nor failed
abbrev pub is_open : Half → Bool
is_open h = h.alive && not h.failed

-- a further `send` or `recv` of the half is refused
abbrev pub is_spent : Half → Bool
is_spent h = h.failed || h.given_up

-- the cause of a parked `recv` that lacks this many bytes is there
abbrev pub is_receivable : ChannelState → ℕ → Bool
is_receivable c need = nat_le need (left c)

-- the cause of a parked `send` is there
abbrev pub is_drained : ChannelState → Bool
is_drained c = nat_le (left c) c.buffer_size

-- a half that was closed, one that failed, and one whose wait was given up
abbrev pub closed : Half → Half
closed h = record h { alive = false }

abbrev pub failed : Half → Half
failed h = record h { failed = true }

abbrev pub given_up : Half → Half
given_up h = record h { given_up = true }

-- the channel with its sink in this state: a sink that closes or fails gives its `send` up, and ends a parked `recv`
abbrev pub with_ended_sink : ChannelState → Half → ChannelState
with_ended_sink c h = record c { sink = h; sender = None; sending = false; receiver = None }

-- the task of the parked `recv`
abbrev pub receiver_task : Option Parked → Option ℕ
receiver_task None = None
receiver_task (Some w) = Some w.task

-- Sending.

-- the bytes are appended
abbrev pub appended : ChannelState → List ℕ → ChannelState
appended c bytes = record c { put = c.put ++ bytes }

-- a parked `recv` that needs at most what is there is handed as much as it needs, and up to the buffer size
abbrev pub handed : ChannelState → Option Parked → ChannelState
handed c None = c
handed c (Some w) = if is_receivable c w.need then record c { taken = c.taken + min (left c) (max w.need c.buffer_size); receiver = None } else c

-- and its task is woken
abbrev pub handed_task : ChannelState → Option Parked → Option ℕ
handed_task c None = None
handed_task c (Some w) = if is_receivable c w.need then Some w.task else None

-- the channel after these bytes were sent
abbrev pub sent : ChannelState → List ℕ → ChannelState
sent c bytes = handed (appended c bytes) c.receiver

-- the sender goes on where at most the buffer size is left, and parks otherwise
abbrev pub Settles : ChannelState → Poll Unit → Type 0
Settles c (Ready _) = is_drained c ≡ true
Settles c Pending = is_drained c ≡ false

abbrev pub settled : ChannelState → ℕ → Poll Unit → ChannelState
settled c task (Ready _) = record c { sender = None; sending = false }
settled c task Pending = record c { sender = Some task; sending = true }

-- the sink failed: it sends no more
abbrev pub failed_send : ChannelState → ChannelState
failed_send c = with_ended_sink c (failed c.sink)

-- what `send` may return, and whom it wakes
abbrev pub Sends : ChannelState → List ℕ → Result (Poll Unit) Error → Option ℕ → Type 0
Sends c bytes (Ok answer) wake =
    (is_spent c.sink ≡ false) × (c.stream.alive ≡ true) × (wake ≡ handed_task (appended c bytes) c.receiver) × Settles (sent c bytes) answer
Sends c bytes (Err Closed) wake = (is_spent c.sink ≡ true) × (wake ≡ receiver_task c.receiver)
Sends c bytes (Err SendFailed) wake = (is_spent c.sink ≡ false) × (c.stream.alive ≡ false) × (wake ≡ receiver_task c.receiver)
Sends c bytes (Err NoMemory) wake = wake ≡ None
Sends c bytes (Err e) wake = ⊥

-- the channel after it
abbrev pub after_send : ChannelState → List ℕ → ℕ → Result (Poll Unit) Error → ChannelState
after_send c bytes task (Ok answer) = settled (sent c bytes) task answer
after_send c bytes task (Err NoMemory) = c
after_send c bytes task (Err e) = failed_send c

-- what a poll of a `send` may return; where none is started there is nothing to wait for
abbrev pub PollsSend : ChannelState → Result (Poll Unit) Error → Type 0
PollsSend c (Ok (Ready done)) = (is_drained c || (c.stream.alive && not c.sending)) ≡ true
PollsSend c (Ok Pending) = (is_drained c ≡ false) × (c.stream.alive ≡ true) × (c.sending ≡ true)
PollsSend c (Err SendFailed) = (is_drained c ≡ false) × (c.stream.alive ≡ false)
PollsSend c (Err e) = ⊥

-- the channel after it
abbrev pub after_poll_send : ChannelState → ℕ → Result (Poll Unit) Error → ChannelState
after_poll_send c task (Ok answer) = settled c task answer
after_poll_send c task (Err e) = failed_send c

-- the `send` is given up: the next one closes the sink
abbrev pub given_up_send : ChannelState → ChannelState
given_up_send c = if c.sending then record c { sender = None; sending = false; sink = given_up c.sink } else c

-- Receiving.

-- a parked `send` whose cause is there is parked no more
abbrev pub drained : ChannelState → ChannelState
drained c = record c { sender = if is_drained c then None else c.sender }

-- and its task is woken
abbrev pub drained_task : ChannelState → Option ℕ
drained_task c = if is_drained c then c.sender else None

-- bytes move to the stream, until it holds `len` bytes or as many as the buffer size
abbrev pub moved : ChannelState → ℕ → ChannelState
moved c len = record c { taken = c.taken + min (left c) (max len c.buffer_size - held c) }

-- the channel as `recv` leaves it before it returns
abbrev pub pulled : ChannelState → ℕ → ChannelState
pulled c len = drained (moved c len)

-- the first `len` bytes were answered
abbrev pub answered : ChannelState → ℕ → ChannelState
answered c len = record c { read = c.read + len; receiver = None; receiving = None }

-- the `recv` failed: the stream answers no more
abbrev pub failed_recv : ChannelState → ChannelState
failed_recv c = record c { stream = failed c.stream; receiver = None; receiving = None }

-- the `recv` of `len` bytes is parked, for those that are missing
abbrev pub parked : ChannelState → ℕ → ℕ → ChannelState
parked c len task = record c { receiver = Some (record { need = len - held c; task = task }); receiving = Some len }

-- what `recv` returns once `len` bytes are asked of what the stream holds: exactly so many, the next ones
abbrev pub Answers : ChannelState → ℕ → Poll Chunked → Type 0
Answers c len (Ready buffers) = (len ≤ held c) × (length buffers.bytes ≡ len) × (buffers.bytes ≡ take len (unread c))
Answers c len Pending = (held c < len) × (is_open c.sink ≡ true)

abbrev pub after_answer : ChannelState → ℕ → ℕ → Poll Chunked → ChannelState
after_answer c len task (Ready _) = answered c len
after_answer c len task Pending = parked c len task

-- what `recv` may return, and whom it wakes
abbrev pub Receives : ChannelState → ℕ → Result (Reply (Poll Chunked)) Error → Type 0
Receives c len (Ok r) =
    (is_spent c.stream ≡ false) × (r.wake ≡ drained_task (moved c len)) × (r.link ≡ None) × Answers (pulled c len) len r.value
Receives c len (Err Closed) = is_spent c.stream ≡ true
Receives c len (Err RecvFailed) =
    (is_spent c.stream ≡ false) × (held (pulled c len) < len) × (is_open c.sink ≡ false)
Receives c len (Err NoMemory) = Unit {0}
Receives c len (Err e) = ⊥

-- the channel after it
abbrev pub after_recv : ChannelState → ℕ → ℕ → Result (Reply (Poll Chunked)) Error → ChannelState
after_recv c len task (Ok r) = after_answer (pulled c len) len task r.value
after_recv c len task (Err RecvFailed) = failed_recv (pulled c len)
after_recv c len task (Err e) = c

-- the length of the started `recv`
abbrev pub started_length : ChannelState → ℕ
started_length c = unwrap_or c.receiving 0

-- what the next poll of a started `recv` may return
abbrev pub PollsReceive : ChannelState → Result (Poll Chunked) Error → Type 0
PollsReceive c (Ok answer) = Answers c (started_length c) answer
PollsReceive c (Err RecvFailed) = (held c < started_length c) × (is_open c.sink ≡ false)
PollsReceive c (Err e) = ⊥

-- the channel after it
abbrev pub after_poll_recv : ChannelState → ℕ → Result (Poll Chunked) Error → ChannelState
after_poll_recv c task (Ok answer) = after_answer c (started_length c) task answer
after_poll_recv c task (Err e) = failed_recv c

-- what `peek` may return
abbrev pub Peeks : ChannelState → ℕ → Result (List ℕ) Error → Type 0
Peeks c len (Ok bytes) = bytes ≡ take (min len (held c)) (unread c)
Peeks c len (Err NoMemory) = Unit {0}
Peeks c len (Err e) = ⊥

-- the `recv` is given up: the stream answers no more
abbrev pub given_up_recv : ChannelState → Option ℕ → ChannelState
given_up_recv c None = c
given_up_recv c (Some len) = record c { receiver = None; receiving = None; stream = given_up c.stream }

-- Closing.

-- the sink is closed
abbrev pub closed_sink : ChannelState → ChannelState
closed_sink c = with_ended_sink c (closed c.sink)

-- the stream is closed, and its `recv` given up
abbrev pub closed_stream : ChannelState → ChannelState
closed_stream c = record c { stream = closed c.stream; receiver = None; receiving = None; sender = None }

-- a channel without bytes whose two halves are alive
abbrev pub fresh : ℕ → ChannelState
fresh size = record {
  put = [];
  taken = 0;
  read = 0;
  buffer_size = size;
  receiver = None;
  sender = None;
  sink = record { alive = true; failed = false; given_up = false };
  stream = record { alive = true; failed = false; given_up = false };
  receiving = None;
  sending = false;
}

-- the counts are in order: what `recv` answered was taken before, and what was taken was sent
pub record AreCounted (c : ChannelState) : Type 0 where
  pub read : c.read ≤ c.taken
  pub taken : c.taken ≤ length c.put

-- Who waits. A parked `recv` is a started one that lacks bytes, and both halves are open. A parked `send` is a started
-- one with more than the buffer size before it, its sink is open, and its stream alive. A started `recv` that lacks
-- bytes of an open sink is parked, and so is a started `send` with more than the buffer size before it and a stream
-- that is alive. Only an open sink has a `send` started.
pub record IsQuiet (c : ChannelState) : Type 0 where
  pub receiver : (w : Parked) → c.receiver ≡ Some w → (left c < w.need) × (is_open c.sink ≡ true) × (is_open c.stream ≡ true) × (c.receiving ≡ Some (w.need + held c))
  pub sender : (t : ℕ) → c.sender ≡ Some t → (c.buffer_size < left c) × (c.stream.alive ≡ true) × (is_open c.sink ≡ true) × (c.sending ≡ true)
  pub receiving : (len : ℕ) → c.receiving ≡ Some len → held c < len → is_open c.sink ≡ true → (t : ℕ) × (c.receiver ≡ Some (record { need = len - held c; task = t }))
  pub sending : c.sending ≡ true → c.buffer_size < left c → c.stream.alive ≡ true → (t : ℕ) × (c.sender ≡ Some t)
  pub started : c.sending ≡ true → is_open c.sink ≡ true
