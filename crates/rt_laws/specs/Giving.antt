-- What a generator is asked for, and a small one.
use Rattle.std.specs.Prelude.{◌≡◌, ℕ, List, length, replicate}
use Rattle.rand_core.specs.Stream.{Stream, Call, u32_call, u64_call, bytes_call}
use Rattle.rt_model.specs.Draws.{Drawn, Short, Long, Filled}

-- the call of a generator that gives this
abbrev pub asked_for : Drawn → Call
asked_for (Short number) = u32_call
asked_for (Long number) = u64_call
asked_for (Filled bytes) = bytes_call (length bytes)

-- it fills a buffer of any length, whatever it was asked for before
abbrev pub Fills : Stream → Type 0
Fills s = (before : List Call) (count : ℕ) → length (s.bytes_after before count) ≡ count

-- each number that it gives is the count of the calls before, and so is each byte
abbrev pub counting : Stream
counting = record { u32_after = λ calls. length calls; u64_after = λ calls. length calls; bytes_after = λ calls count. replicate count (length calls) }
