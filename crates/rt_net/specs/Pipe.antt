-- What the code keeps of one channel, and the record that it is.
use Rattle.std.specs.Prelude.{◌≡◌, ℕ, ◌+◌, ◌≤◌, true, ◌++◌, length, take, Some, IsSomeAnd}
use Rattle.rt_net.specs.declared.pipe.Pipe.TheInside.{Inside}
use Rattle.rt_net.specs.Forgotten.{IsWhole}
use Rattle.rt_net.specs.Channel.{ChannelState, AreCounted, IsQuiet}

-- the bytes kept are between those that were answered and those that were given up with the channel
abbrev pub channel_of : Inside → ChannelState
channel_of p = record {
  put = p.forgotten.past.before ++ (p.bytes ++ p.forgotten.past.after);
  taken = length p.forgotten.past.before + p.held + p.forgotten.past.moved;
  read = length p.forgotten.past.before;
  buffer_size = p.buffer_size;
  receiver = p.receiver;
  sender = p.sender;
  sink = p.sink;
  stream = p.stream;
  receiving = p.receiving;
  sending = p.sending;
}

-- a channel that is live in some half is kept whole, no waiting task's cause is there, and the answer of a started
-- `recv` is made as soon as its bytes are held
pub record IsKept (p : Inside) : Type 0 where
  pub within : p.held ≤ length p.bytes
  pub of_sink : p.sink.alive ≡ true → IsWhole p.forgotten.past
  pub of_stream : p.stream.alive ≡ true → IsWhole p.forgotten.past
  pub counted : AreCounted (channel_of p)
  pub quiet : IsQuiet (channel_of p)
  pub answer : (len : ℕ) → p.receiving ≡ Some len → len ≤ p.held → IsSomeAnd p.ready (λ b. b.bytes ≡ take len p.bytes)
