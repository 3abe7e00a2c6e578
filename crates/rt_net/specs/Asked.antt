-- How many bytes a `recv` returns: as many as it asked for, where so many are there.
use Rattle.std.specs.Prelude.{◌≡◌, ℕ, ◌<◌, ◌≤◌, length, Option, Some, None}
use Rattle.rt_base.specs.declared.poll.Poll.{Poll}
use Rattle.rt_base.specs.declared.poll.Poll.TheVariants.{Ready, Pending}
use Rattle.rt_bufs.specs.Chunked.{Chunked}
use Rattle.rt_net.specs.Channel.{ChannelState, started_length, unread}

-- the bytes are as many, where they came
abbrev pub HasLength : ℕ → Poll Chunked → Type 0
HasLength n (Ready b) = length b.bytes ≡ n
HasLength n Pending = Unit {0}

-- how many bytes the `recv` that waits at a channel asked for
abbrev pub asked_of : Option ChannelState → ℕ
asked_of None = 0
asked_of (Some c) = started_length c

-- how many bytes there are at a channel that no `recv` returned yet
abbrev pub unread_of : Option ChannelState → ℕ
unread_of None = 0
unread_of (Some c) = length (unread c)

-- so many bytes come where at least as many are there, and else the call waits for them
abbrev pub AreThere : ℕ → ℕ → Poll Chunked → Type 0
AreThere n there (Ready b) = n ≤ there
AreThere n there Pending = there < n
