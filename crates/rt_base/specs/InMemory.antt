-- The state of a source or a sink in memory, and what a call of it does.
use Rattle.std.specs.Prelude.{◌≡◌, ℕ, ◌+◌, ◌-◌, ◌^◌, List, ◌++◌, Result, Ok, Err, take, drop, length, min, Contains}
use Rattle.rt_base.specs.declared.failed.Failed.{Failed}

-- its bytes, the numbers of the calls that fail, the most bytes that a call moves, and how many
-- calls and faults there were
pub record InMemory : Type 0 where
  pub bytes : List ℕ
  pub failing : List ℕ
  pub most : ℕ
  pub calls : ℕ
  pub faults : ℕ

abbrev pub begun : List ℕ → List ℕ → ℕ → InMemory
begun bytes failing most = record { bytes = bytes; failing = failing; most = most; calls = 0; faults = 0 }

-- one more, up to the end of a u64
abbrev pub counted_up : ℕ → ℕ
counted_up n = min (n + 1) (2 ^ 64 - 1)

abbrev pub called : InMemory → InMemory
called s = record s { calls = counted_up s.calls }

-- the call that comes next is one of those that fail
abbrev pub FailsNext : InMemory → Type 0
FailsNext s = Contains s.failing (counted_up s.calls)

-- a read into so much room moves as many bytes as there are, as fit and as a call moves; it fails
-- exactly where its number is listed
abbrev pub ReadsInMemory : InMemory → ℕ → Result ℕ Failed → List ℕ → InMemory → Type 0
ReadsInMemory old room (Ok n) buf new =
    (¬ FailsNext old)
    × (n ≡ min (min room (length old.bytes)) old.most)
    × (take n buf ≡ take n old.bytes)
    × (new ≡ record (called old) { bytes = drop n old.bytes })
ReadsInMemory old room (Err e) buf new =
    FailsNext old × (new ≡ record (called old) { faults = counted_up old.faults })

-- a write moves as many bytes as there are and as a call moves; it fails where its number is
-- listed, and otherwise only where it was out of memory
abbrev pub WritesInMemory : InMemory → List ℕ → Result ℕ Failed → InMemory → Type 0
WritesInMemory old piece (Ok n) new =
    (¬ FailsNext old)
    × (n ≡ min (length piece) old.most)
    × (new ≡ record (called old) { bytes = old.bytes ++ take n piece })
WritesInMemory old piece (Err e) new = new ≡ record (called old) { faults = counted_up old.faults }
