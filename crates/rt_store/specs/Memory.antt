-- What each crash leaves of the blobs of a store in memory.
use Rattle.std.specs.Prelude.{◌≢◌, ◌<◌, ℕ, if◌then◌else◌, List, [], Option, Some, None}
use Rattle.rt_store.specs.Calls.{blob_of}
use Rattle.rt_store.specs.declared.blob.Blob.{Blob}
use Rattle.rt_store.specs.declared.ticket.Ticket.{Ticket}
use Rattle.rt_store.specs.File.{FileState, has_none}
use Rattle.rt_store.specs.Kept.{Kept}
use Rattle.rt_store.specs.Store.{content_at}

abbrev pub memory_bytes : Kept → Blob → List ℕ
memory_bytes v k = content_at (blob_of v k)

-- one list where no change is open, since a crash decides over those alone
abbrev pub left_of : Option FileState → Option (List ℕ)
left_of None = Some []
left_of (Some b) = if has_none b.later then Some b.base else None

abbrev pub memory_left : Kept → Blob → Option (List ℕ)
memory_left v k = left_of (blob_of v k)

-- no ticket has a number, since a sync that was started is done at once
abbrev pub memory_promised : Kept → Ticket → Blob → Option (List ℕ)
memory_promised v t k = None

-- two tokens, each with a number of its own
abbrev pub memory_apart : Kept → Blob → Blob → Type 0
memory_apart v k j = k.number ≢ j.number

-- a token that was given out, also one that is spent by now
abbrev pub memory_opened : Kept → Blob → Type 0
memory_opened v k = k.number < v.state.opened
