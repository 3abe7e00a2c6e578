-- The calls of a `MemStore`: for each what it may return, and the store after an answer of Ok.
use Rattle.std.specs.Prelude.{◌≡◌, ℕ, ◌+◌, ◌≤◌, ⊤, Bool, ◌&&◌, ◌||◌, ◌==◌, if◌then◌else◌, List, [], ◌∷◌, ◌++◌, length, map, take, drop, Option, Some, None, Result, Ok, Err, Vec, slice_get, slice_set, is_some, nat_lt}
use Rattle.std.specs.Char.{is_ascii_alphanumeric}
use Rattle.std.specs.Global.{Global}
use Rattle.std.specs.List.{list_all}
use Rattle.hex.specs.Hex.{encode_lower}
use Rattle.rt_base.specs.declared.error.Error.{Error}
use Rattle.rt_base.specs.declared.error.Error.TheVariants.{NoMemory, UnknownToken, PartitionNameInvalid, PartitionMissing, BlobMissing, BlobAlreadyOpen, BlobVersionMismatch}
use Rattle.rt_base.specs.declared.options.WriteOptions.{WriteOptions}
use Rattle.rt_base.specs.declared.version.BlobVersion.{BlobVersion}
use Rattle.rt_base.specs.declared.poll.Poll.{Poll}
use Rattle.rt_base.specs.declared.poll.Poll.TheVariants as poll
use Rattle.rt_base.specs.Counted.{counted}
use Rattle.rt_base.specs.Noted.{Noted}
use Rattle.rt_bufs.specs.WritableChunks.{WritableChunks}
use Rattle.rt_store.specs.Answered.{IsCopy}
use Rattle.rt_store.specs.declared.blob.Blob.{Blob}
use Rattle.rt_store.specs.declared.mutation.Mutation.TheVariants.{Write, Resize}
use Rattle.rt_store.specs.declared.ticket.Done.{Done}
use Rattle.rt_store.specs.declared.ticket.Done.TheVariants.{Now}
use Rattle.rt_store.specs.declared.ticket.Ticket.{Ticket}
use Rattle.rt_store.specs.declared.ticket.Ticket.TheVariants.{Ready, Numbered}
use Rattle.rt_store.specs.Directory.{Names, Partitions, names_in, number_of, named, unnamed, without_partition, names_of, numbers_of, Ascend}
use Rattle.rt_store.specs.Draws.{Answers}
use Rattle.rt_store.specs.File.{FileState, fresh_file, with_token, mutated, synced, detached}
use Rattle.rt_store.specs.Kept.{Kept}
use Rattle.rt_store.specs.Reading.{bytes_of, placed, placed_bytes, ranges_of, ranges_refusal}
use Rattle.rt_store.specs.Store.{StoreState, live, at_blob, at_place, or_else, all_detached, refusal_at, content_at, read_refusal, end_refusal, no_refusal}

-- Calls on a token.

-- the blob of a token
abbrev pub blob_of : Kept → Blob → Option FileState
blob_of v k = live v.state.files k

-- with the blob of a token changed
abbrev pub with_blob : Kept → Blob → (FileState → FileState) → StoreState
with_blob v k f = record v.state { files = at_blob v.state.files k.place f (blob_of v k) }

-- the bytes that a read asks for
abbrev pub IsRange : Kept → Blob → ℕ → ℕ → WritableChunks → Type 0
IsRange v k offset len b = b.bytes ≡ take len (drop offset (content_at (blob_of v k)))

abbrev pub Reads : Kept → Blob → ℕ → ℕ → Result WritableChunks Error → List Noted → Type 0
Reads v k offset len r x = Answers (refusal_at (blob_of v k) (read_refusal offset len)) v.faults.read_rate (IsRange v k offset len) r x

-- at least as many bytes fit as in the buffers that were given
abbrev pub KeepsRoom : WritableChunks → Result WritableChunks Error → Type 0
KeepsRoom given (Ok b) = given.capacity ≤ b.capacity
KeepsRoom given (Err e) = ⊤

-- the same for several ranges
abbrev pub many_refusal : List (ℕ × ℕ) → FileState → Option Error
many_refusal rs b = ranges_refusal rs (length b.content)

abbrev pub ReadsMany : Kept → Blob → List (ℕ × ℕ) → Result (Vec (ℕ × WritableChunks) Global) Error → List Noted → Type 0
ReadsMany v k rs r x =
    Answers (refusal_at (blob_of v k) (many_refusal rs)) v.faults.read_rate (λ a. placed_bytes a.items ≡ placed 0 (ranges_of rs (content_at (blob_of v k)))) r x

abbrev pub ReadsInOrder : Kept → Blob → List (ℕ × ℕ) → Result (Vec WritableChunks Global) Error → List Noted → Type 0
ReadsInOrder v k rs r x =
    Answers (refusal_at (blob_of v k) (many_refusal rs)) v.faults.read_rate (λ a. bytes_of a.items ≡ ranges_of rs (content_at (blob_of v k))) r x

abbrev pub IsNow : Done → Type 0
IsNow d = d ≡ Now

abbrev pub Writes : Kept → Blob → ℕ → List ℕ → Result Done Error → List Noted → Type 0
Writes v k offset bytes r x = Answers (refusal_at (blob_of v k) (end_refusal (offset + length bytes))) v.faults.write.rate IsNow r x

abbrev pub after_write : Kept → Blob → ℕ → List ℕ → WriteOptions → StoreState
after_write v k offset bytes options = with_blob v k (mutated (Write offset bytes options.sync))

abbrev pub Resizes : Kept → Blob → ℕ → Result Unit Error → List Noted → Type 0
Resizes v k len r x = Answers (refusal_at (blob_of v k) (end_refusal len)) v.faults.resize.rate (λ _. ⊤) r x

abbrev pub after_resize : Kept → Blob → ℕ → StoreState
after_resize v k len = with_blob v k (mutated (Resize len))

abbrev pub Syncs : Kept → Blob → Result Done Error → List Noted → Type 0
Syncs v k r x = Answers (refusal_at (blob_of v k) no_refusal) v.faults.sync_rate IsNow r x

-- a sync whose answer says no more
abbrev pub Saves : Kept → Blob → Result Unit Error → List Noted → Type 0
Saves v k r x = Answers (refusal_at (blob_of v k) no_refusal) v.faults.sync_rate (λ _. ⊤) r x

abbrev pub after_sync : Kept → Blob → StoreState
after_sync v k = with_blob v k synced

-- a started sync is a sync whose answer is in the ticket, except where there was no memory or no such token
abbrev pub started : Result Unit Error → Result Ticket Error
started (Ok _) = Ok (Ready (Ok tt))
started (Err NoMemory) = Err NoMemory
started (Err UnknownToken) = Err UnknownToken
started (Err e) = Ok (Ready (Err e))

-- a polled sync: a copy of what a ready ticket holds; a numbered one is of no such store, and is ready with a refusal then
abbrev pub PollsSync : Ticket → Poll (Result Unit Error) → Type 0
PollsSync (Ready held) p = IsCopy held p
PollsSync (Numbered n) p = p ≡ poll.Ready (Err UnknownToken)

abbrev pub polled_ticket : Ticket → Ticket
polled_ticket (Ready held) = Ready held
polled_ticket (Numbered n) = Ready (Err UnknownToken)

abbrev pub after_poll : Kept → Ticket → Kept
after_poll v (Ready held) = v
after_poll v (Numbered n) = let r : Result Unit Error = Err UnknownToken in record v { refusals = counted v.refusals r }

-- Names.

-- a letter, a digit, a dash or an underscore
abbrev pub is_name_byte : ℕ → Bool
is_name_byte b = is_ascii_alphanumeric b || (b == 45) || (b == 95)

abbrev pub is_partition_name : List ℕ → Bool
is_partition_name name = nat_lt 0 (length name) && list_all is_name_byte name

-- the blob of a name
abbrev pub file_at : List FileState → Option ℕ → Option FileState
file_at files None = None
file_at files (Some n) = slice_get files n

abbrev pub file_named : StoreState → List ℕ → List ℕ → Option FileState
file_named s partition name = file_at s.files (number_of partition name s.directory)

-- its version isn't in the range
abbrev pub is_outside : BlobVersion × BlobVersion → BlobVersion → Bool
is_outside versions v = nat_lt v.version versions.0.version || nat_lt versions.1.version v.version

abbrev pub open_refusal_of : List ℕ → List ℕ → BlobVersion × BlobVersion → Option FileState → Option Error
open_refusal_of partition name versions None = None
open_refusal_of partition name versions (Some b) =
    if is_some b.token then Some (BlobAlreadyOpen partition (encode_lower name))
    else if is_outside versions b.version then Some (BlobVersionMismatch versions b.version)
    else None

abbrev pub open_refusal : StoreState → List ℕ → List ℕ → BlobVersion × BlobVersion → Option Error
open_refusal s partition name versions =
    if is_partition_name partition then open_refusal_of partition name versions (file_named s partition name)
    else Some (PartitionNameInvalid partition)

-- the place of the next blob, or of the one that is there
abbrev pub place_for : StoreState → Option ℕ → Option FileState → ℕ
place_for s None b = length s.files
place_for s (Some n) None = length s.files
place_for s (Some n) (Some b) = n

abbrev pub version_for : BlobVersion × BlobVersion → Option FileState → BlobVersion
version_for versions None = versions.1
version_for versions (Some b) = b.version

-- the token, the length and the version of the blob
abbrev pub IsOpened : StoreState → List ℕ → List ℕ → BlobVersion × BlobVersion → Blob × ℕ × BlobVersion → Type 0
IsOpened s partition name versions a =
    (a.0 ≡ record { number = s.opened; place = place_for s (number_of partition name s.directory) (file_named s partition name) })
    × (a.1 ≡ length (content_at (file_named s partition name)))
    × (a.2 ≡ version_for versions (file_named s partition name))

-- the blob that is there gets the token, and else a blob is made
abbrev pub opened_for : StoreState → List ℕ → List ℕ → BlobVersion × BlobVersion → Option ℕ → Option FileState → StoreState
opened_for s partition name versions (Some n) (Some b) =
    record s { files = slice_set s.files n (with_token s.opened b); opened = s.opened + 1 }
opened_for s partition name versions n b =
    record s { directory = named partition name (length s.files) s.directory; files = s.files ++ fresh_file versions.1 s.opened ∷ []; opened = s.opened + 1 }

abbrev pub after_open : StoreState → List ℕ → List ℕ → BlobVersion × BlobVersion → StoreState
after_open s partition name versions = opened_for s partition name versions (number_of partition name s.directory) (file_named s partition name)

-- the range of the default version alone
abbrev pub default_range : BlobVersion × BlobVersion
default_range = (record { version = 0 }, record { version = 0 })

-- an answer, with the version that it leaves out
abbrev pub with_version : BlobVersion → Result (Blob × ℕ) Error → Result (Blob × ℕ × BlobVersion) Error
with_version version (Ok a) = Ok (a.0, a.1, version)
with_version version (Err e) = Err e

abbrev pub OpensVersioned : Kept → List ℕ → List ℕ → BlobVersion × BlobVersion → Result (Blob × ℕ × BlobVersion) Error → List Noted → Type 0
OpensVersioned v partition name versions r x =
    Answers (open_refusal v.state partition name versions) v.faults.open_rate (IsOpened v.state partition name versions) r x

abbrev pub Opens : Kept → List ℕ → List ℕ → Result (Blob × ℕ) Error → List Noted → Type 0
Opens v partition name r x =
    OpensVersioned v partition name default_range (with_version (version_for default_range (file_named v.state partition name)) r) x

-- a partition that isn't there, and a name that isn't in it
abbrev pub missing_refusal : List ℕ → Option Names → Option Error
missing_refusal partition None = Some (PartitionMissing partition)
missing_refusal partition (Some names) = None

abbrev pub shelf_refusal : List ℕ → Partitions → Option Error
shelf_refusal partition d =
    if is_partition_name partition then missing_refusal partition (names_in partition d)
    else Some (PartitionNameInvalid partition)

abbrev pub absent_refusal : List ℕ → List ℕ → Option ℕ → Option Error
absent_refusal partition name None = Some (BlobMissing partition (encode_lower name))
absent_refusal partition name (Some n) = None

-- a partition isn't found, or in it the name that is given
abbrev pub name_refusal : Partitions → List ℕ → Option (List ℕ) → Option Error
name_refusal d partition None = shelf_refusal partition d
name_refusal d partition (Some name) = or_else (shelf_refusal partition d) (absent_refusal partition name (number_of partition name d))

abbrev pub Removes : Kept → List ℕ → Option (List ℕ) → Result Unit Error → List Noted → Type 0
Removes v partition name r x = Answers (name_refusal v.state.directory partition name) v.faults.remove_rate (λ _. ⊤) r x

-- a name goes, and its blob is removed
abbrev pub without_blob_at : StoreState → List ℕ → List ℕ → Option ℕ → StoreState
without_blob_at s partition name None = s
without_blob_at s partition name (Some n) = record s { directory = unnamed partition name s.directory; files = at_place s.files n detached }

abbrev pub without_blob : StoreState → List ℕ → List ℕ → StoreState
without_blob s partition name = without_blob_at s partition name (number_of partition name s.directory)

-- a partition goes with all its names, and their blobs are removed
abbrev pub without_blobs : StoreState → List ℕ → StoreState
without_blobs s partition =
    record s { directory = without_partition partition s.directory; files = all_detached (numbers_of (names_in partition s.directory)) s.files }

abbrev pub after_remove : StoreState → List ℕ → Option (List ℕ) → StoreState
after_remove s partition (Some name) = without_blob s partition name
after_remove s partition None = without_blobs s partition

-- the names of a partition, in the order of their bytes
abbrev pub AreNames : StoreState → List ℕ → Vec (Vec ℕ Global) Global → Type 0
AreNames s partition a = (map (λ (n : Vec ℕ Global). n.items) a.items ≡ names_of (names_in partition s.directory)) × Ascend (names_of (names_in partition s.directory))

abbrev pub Scans : Kept → List ℕ → Result (Vec (Vec ℕ Global) Global) Error → List Noted → Type 0
Scans v partition r x = Answers (shelf_refusal partition v.state.directory) v.faults.scan_rate (AreNames v.state partition) r x
