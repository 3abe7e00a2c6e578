-- What a store that holds syncs back keeps of its blobs by a crash, by what its inner store keeps of them.
use Rattle.std.specs.Prelude.{◌≡◌, ◌≢◌, ◌<◌, ℕ, ◌==◌, Bool, true, false, ◌&&◌, if◌then◌else◌, List, [], length, Option, Some, None, slice_get, nat_lt}
use Rattle.rt_buffer.specs.declared.delayed_sync.DelayedSyncContext.{DelayedSyncContext}
use Rattle.rt_buffer.specs.declared.shared_blob.SharedBlob.{SharedBlob}
use Rattle.rt_buffer.specs.declared.stage.Stage.{Stage}
use Rattle.rt_buffer.specs.declared.stage.Stage.TheVariants as stage
use Rattle.rt_buffer.specs.Delayed.{Delayed, blob_at, delayed, stage_of}
use Rattle.rt_store.specs.declared.storage.Storage.{Ghosts}
use Rattle.rt_store.specs.declared.ticket.Ticket.{Ticket}
use Rattle.rt_store.specs.declared.ticket.Ticket.TheVariants.{Ready, Numbered}

-- the parts of such a store
abbrev pub delayed_of : {S B : Type 0} → DelayedSyncContext S B → Delayed S B
delayed_of s = delayed s.inner s.pending s.blobs.items s.tickets.items s.refusals

-- the bytes of the inner blob of a number, and what each crash leaves of it
abbrev pub bytes_in : {S B : Type 0} → Ghosts S B → S → Option B → List ℕ
bytes_in c s None = []
bytes_in c s (Some b) = c.bytes s b

abbrev pub delayed_bytes : {S B : Type 0} → Ghosts S B → Delayed S B → ℕ → List ℕ
delayed_bytes c s n = bytes_in c s.inner (blob_at s.blobs n)

abbrev pub left_in : {S B : Type 0} → Ghosts S B → S → Option B → Option (List ℕ)
left_in c s None = Some []
left_in c s (Some b) = c.left s b

abbrev pub delayed_left : {S B : Type 0} → Ghosts S B → Delayed S B → ℕ → Option (List ℕ)
delayed_left c s n = left_in c s.inner (blob_at s.blobs n)

-- another one holds the blob too
abbrev pub has_other : {B : Type 0} → Option (Option (SharedBlob B)) → Bool
has_other None = false
has_other (Some None) = false
has_other (Some (Some b)) = nat_lt 0 b.others

-- a ticket that holds this blob, or none, leaves the blob of a number open at its end
abbrev pub stays_open : {B : Type 0} → List (Option (SharedBlob B)) → ℕ → Option ℕ → Bool
stays_open blobs n None = true
stays_open blobs n (Some m) = (m == n) && has_other (slice_get blobs n)

abbrev pub promised_in : {S B : Type 0} → Ghosts S B → S → Ticket → Option B → Option (List ℕ)
promised_in c s t None = None
promised_in c s t (Some b) = c.promised s t b

-- what each crash leaves once the sync of a ticket is done: one that is held becomes a sync of all that the blob has then
abbrev pub promised_by : {S B : Type 0} → Ghosts S B → Delayed S B → ℕ → Stage → Option (List ℕ)
promised_by c s n stage.Out = None
promised_by c s n (stage.Held h) = if stays_open s.blobs n (Some h.blob) then Some (delayed_bytes c s n) else None
promised_by c s n (stage.Passed k) = if stays_open s.blobs n k.blob then promised_in c s.inner (Numbered k.number) (blob_at s.blobs n) else None

abbrev pub delayed_promised : {S B : Type 0} → Ghosts S B → Delayed S B → Ticket → ℕ → Option (List ℕ)
delayed_promised c s (Ready r) n = None
delayed_promised c s (Numbered k) n = promised_by c s n (stage_of (slice_get s.tickets k))

-- two numbers, whose inner blobs are apart where both are open
abbrev pub delayed_apart : {S B : Type 0} → Ghosts S B → Delayed S B → ℕ → ℕ → Type 0
delayed_apart {B = B} c s n m = (n ≢ m) × ((a b : B) → blob_at s.blobs n ≡ Some a → blob_at s.blobs m ≡ Some b → c.apart s.inner a b)

-- a number that was given out, of no inner blob or of one that was given out
abbrev pub delayed_opened : {S B : Type 0} → Ghosts S B → Delayed S B → ℕ → Type 0
delayed_opened {B = B} c s n = (n < length s.blobs) × ((b : B) → blob_at s.blobs n ≡ Some b → c.opened s.inner b)
