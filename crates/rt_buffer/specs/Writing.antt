-- What a writer answers from its tip and its blob.
use Rattle.std.specs.Prelude.{◌≡◌, ℕ, ◌-◌, ◌≤◌, min, Bool, true, false, not, ◌||◌, ◌&&◌, nat_lt, List, [], ◌∷◌, ◌++◌, length, take, drop, Result, Ok, Err}
use Rattle.rt_base.specs.Counted.{Counts}
use Rattle.rt_base.specs.declared.error.Error.{Error}
use Rattle.rt_base.specs.declared.error.Error.TheVariants.{NoMemory}
use Rattle.rt_base.specs.Noted.{Noted}
use Rattle.rt_bufs.specs.Chunked.{Chunked}
use Rattle.rt_bufs.specs.WritableChunks.{WritableChunks}
use Rattle.rt_buffer.specs.Calls.{IsClose, IsGivenUp, IsRead}
use Rattle.rt_buffer.specs.declared.sync_state.SyncState.{SyncState}
use Rattle.rt_buffer.specs.declared.sync_state.SyncState.TheVariants.{Clean, Dirty, Started}
use Rattle.rt_store.specs.Answered.{is_numbered}
use Rattle.rt_store.specs.declared.storage.Storage.{Ghosts}
use Rattle.rt_buffer.specs.Reading.{no_hints}
use Rattle.rt_buffer.specs.Tip.{Tip, end_of}

abbrev pub is_clean : SyncState → Bool
is_clean Clean = true
is_clean Dirty = false
is_clean (Started t) = false

abbrev pub has_bytes : List ℕ → Bool
has_bytes [] = false
has_bytes (b ∷ bs) = true

-- a tip has bytes, and they begin before this place
abbrev pub is_in_the_way : Tip → ℕ → Bool
is_in_the_way t end = has_bytes t.bytes && nat_lt t.offset end

-- bytes are held back, or a change may not be durable
abbrev pub needs_sync : Tip → SyncState → Bool
needs_sync t s = has_bytes t.bytes || not (is_clean s)

-- a read within the tip
abbrev pub ReadsTip : Tip → ℕ → ℕ → Result Chunked Error → Type 0
ReadsTip t offset len (Ok b) = b.bytes ≡ take len (drop (offset - t.offset) t.bytes)
ReadsTip t offset len (Err e) = e ≡ NoMemory

-- how many bytes of a read lie before the tip
abbrev pub before_tip : Tip → ℕ → ℕ → ℕ
before_tip t offset len = min len (t.offset - offset)

-- a read after that of the bytes before the tip
abbrev pub AddsTip : Tip → ℕ → Result WritableChunks Error → Result Chunked Error → Type 0
AddsTip t more (Ok fetched) (Ok b) = b.bytes ≡ fetched.bytes ++ take more t.bytes
AddsTip t more (Ok fetched) (Err e) = e ≡ NoMemory
AddsTip t more (Err e) r = r ≡ Err e

-- a read that begins before the tip: one read of the store, up to the tip
abbrev pub ReadsThrough : {S B : Type 0} → Ghosts S B → B → Tip → ℕ → ℕ → S → Result Chunked Error → S → List Noted → Type 0
ReadsThrough c blob t offset len old r new x =
    (fetched : Result WritableChunks Error)
    × IsRead c old blob offset (before_tip t offset len) no_hints fetched new x
    × Counts (c.refusals old) (c.refusals new) fetched
    × AddsTip t (len - before_tip t offset len) fetched r

-- a tip lies over the end of a content: it begins within it or at its end, and ends no earlier
abbrev pub LiesOver : Tip → List ℕ → Type 0
LiesOver t content = (t.offset ≤ length content) × (length content ≤ end_of t)

-- a started sync is given up, which leaves the store as it was where its ticket is ready, and then the blob is closed
abbrev pub ClosesWriter : {S B : Type 0} → Ghosts S B → SyncState → B → S → S → Type 0
ClosesWriter {S} c Clean blob old new = IsClose c old blob new
ClosesWriter {S} c Dirty blob old new = IsClose c old blob new
ClosesWriter {S} c (Started t) blob old new = (mid : S) × IsGivenUp c old t mid × (is_numbered t ≡ false → mid ≡ old) × IsClose c mid blob new
