-- What a crash of a store in memory leaves of a blob of which no change is open.
use Rattle.std.specs.Prelude.{◌≡◌, ℕ, List, Some, slice_get}
use Rattle.rt_base.specs.declared.choice.Choice.{Choice}
use Rattle.rt_store.specs.Calls.{blob_of}
use Rattle.rt_store.specs.declared.blob.Blob.{Blob}
use Rattle.rt_store.specs.Durable.{IsDurable}
use Rattle.rt_store.specs.File.{FileState}
use Rattle.rt_store.specs.Kept.{Kept}
use Rattle.rt_store.specs.Memory.{memory_bytes, memory_left}
use Rattle.rt_store.specs.Whole.{after_crash}

-- the crash of such a store, whatever it chooses over all its blobs, leaves exactly these bytes at the place of this blob
abbrev pub CrashLeaves : List ℕ → Kept → Blob → Type 0
CrashLeaves bytes v k = (b : FileState) (choices : List Choice) → blob_of v k ≡ Some b → (left : FileState) × (slice_get (after_crash v.state choices).files k.place ≡ Some left) × (left.content ≡ bytes)

-- each crash leaves the bytes of a blob that is durable
pub record MemoryKeeps : Type 0 where
  pub crash : (v : Kept) (k : Blob) → IsDurable memory_bytes memory_left v k → CrashLeaves (memory_bytes v k) v k
