-- What a reader holds of its blob, and what a read returns and leaves.
use Rattle.std.specs.Prelude.{◌≡◌, ℕ, ◌+◌, ◌-◌, ◌*◌, min, nat_le, if◌then◌else◌, false, List, [], ◌++◌, length, take, drop, IfOk, Result, Ok, Err}
use Rattle.std.specs.Int.{div_ceil}
use Rattle.rt_base.specs.Counted.{Counts}
use Rattle.rt_base.specs.declared.error.Error.{Error}
use Rattle.rt_base.specs.declared.error.Error.TheVariants.{NoMemory}
use Rattle.rt_base.specs.declared.options.ReadOptions.{ReadOptions}
use Rattle.rt_base.specs.Noted.{Noted}
use Rattle.rt_bufs.specs.Chunked.{Chunked}
use Rattle.rt_bufs.specs.WritableChunks.{WritableChunks}
use Rattle.rt_buffer.specs.Calls.{IsRead}
use Rattle.rt_store.specs.declared.storage.Storage.{Ghosts}
use Rattle.rt_store.specs.declared.ticket.Done.{Done}

-- `position` is the place of the next byte, and `held` has the bytes from there on that were fetched before; `size` is
-- how long the blob is, and `buffer` how many bytes a fetch is made of
pub record Ahead : Type 0 where
  pub position : ℕ
  pub held : List ℕ
  pub size : ℕ
  pub buffer : ℕ

-- the place after the bytes that are held
abbrev pub end_of : Ahead → ℕ
end_of a = a.position + length a.held

-- the bytes that are left
abbrev pub remaining : Ahead → ℕ
remaining a = a.size - a.position

-- nothing is held, at this place
abbrev pub placed_at : Ahead → ℕ → Ahead
placed_at a position = record a { position = position; held = [] }

-- the first bytes that are held are read
abbrev pub advanced : Ahead → ℕ → Ahead
advanced a len = record a { position = a.position + len; held = drop len a.held }

-- a place within the held bytes keeps those from there on, and any other place none
abbrev pub sought : Ahead → ℕ → Ahead
sought a position = record a { position = position; held = if nat_le a.position position then drop (position - a.position) a.held else [] }

-- so many bytes are fetched where so many are wanted beyond the held ones: whole buffers, as few as have them, and no
-- more than the blob has
abbrev pub fetch_len : Ahead → ℕ → ℕ
fetch_len a lacking = min (a.buffer * div_ceil lacking a.buffer) (a.size - end_of a)

-- the fetched bytes are held, without the first ones, which are read
abbrev pub filled : Ahead → ℕ → List ℕ → Ahead
filled a lacking bytes = record a { position = end_of a + lacking; held = drop lacking bytes }

-- a read of bytes that are all held
abbrev pub TakesHeld : Ahead → ℕ → Result Chunked Error → Ahead → Type 0
TakesHeld a len (Ok b) new = (b.bytes ≡ take len a.held) × (new ≡ advanced a len)
TakesHeld a len (Err e) new = (e ≡ NoMemory) × (new ≡ a)

-- the held bytes and the first of the fetched ones are handed out, where there is memory for it
abbrev pub Joins : List ℕ → List ℕ → ℕ → Ahead → Result Chunked Error → Ahead → Type 0
Joins held bytes lacking a (Ok b) new = (b.bytes ≡ held ++ take lacking bytes) × (new ≡ filled a lacking bytes)
Joins held bytes lacking a (Err e) new = (e ≡ NoMemory) × (new ≡ a)

-- what a fetch answered is handed out
abbrev pub Gives : List ℕ → ℕ → Ahead → Result WritableChunks Error → Result Chunked Error → Ahead → Type 0
Gives held lacking a (Ok fetched) r new = Joins held fetched.bytes lacking a r new
Gives held lacking a (Err e) r new = (r ≡ Err e) × (new ≡ a)

-- the hints of a fetch
abbrev pub no_hints : ReadOptions
no_hints = record { dont_cache = false }

-- a read that fetches: one read of the store, from the end of the held bytes on
abbrev pub Fetches : {S B : Type 0} → Ghosts S B → B → Ahead → ℕ → S → Result Chunked Error → S → Ahead → List Noted → Type 0
Fetches c blob a lacking old r store new x =
    (fetched : Result WritableChunks Error)
    × IsRead c old blob (end_of a) (fetch_len a lacking) no_hints fetched store x
    × Counts (c.refusals old) (c.refusals store) fetched
    × IfOk fetched (λ b. length b.bytes ≡ fetch_len a lacking)
    × Gives a.held lacking (placed_at a (end_of a)) fetched r new

-- a change of the blob's length, and then a sync where it is done
abbrev pub SyncsBehind : {S B : Type 0} → (S → B → Result Done Error → S → List Noted → Type 0) → B → Result Unit Error → List Noted → S → Result Done Error → S → List Noted → Type 0
SyncsBehind syncs blob (Ok _) y mid r new x = (z : List Noted) × (x ≡ y ++ z) × syncs mid blob r new z
SyncsBehind syncs blob (Err e) y mid r new x = (r ≡ Err e) × (new ≡ mid) × (x ≡ y)

abbrev pub ResizesAndSyncs : {S B : Type 0} → (S → B → ℕ → Result Unit Error → S → List Noted → Type 0) → (S → B → Result Done Error → S → List Noted → Type 0) → B → ℕ → S → Result Done Error → S → List Noted → Type 0
ResizesAndSyncs {S} resizes syncs blob len old r new x =
    (first : Result Unit Error) × (mid : S) × (y : List Noted) × resizes old blob len first mid y × SyncsBehind syncs blob first y mid r new x
