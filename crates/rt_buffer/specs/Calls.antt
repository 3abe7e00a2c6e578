-- The calls of a store, each by what it may return, leave and note, with what every store keeps of its blobs by it.
use Rattle.std.specs.Prelude.{ℕ, List, Result}
use Rattle.rt_base.specs.declared.error.Error.{Error}
use Rattle.rt_base.specs.declared.options.ReadOptions.{ReadOptions}
use Rattle.rt_base.specs.declared.options.WriteOptions.{WriteOptions}
use Rattle.rt_base.specs.declared.poll.Poll.{Poll}
use Rattle.rt_base.specs.declared.version.BlobVersion.{BlobVersion}
use Rattle.rt_base.specs.Noted.{Noted}
use Rattle.rt_bufs.specs.Chunked.{Chunked}
use Rattle.rt_bufs.specs.WritableChunks.{WritableChunks}
use Rattle.rt_store.specs.declared.storage.Storage.{Ghosts}
use Rattle.rt_store.specs.declared.ticket.Done.{Done}
use Rattle.rt_store.specs.declared.ticket.Ticket.{Ticket}
use Rattle.rt_store.specs.Durable.{IsOf, KeepsPoll, KeepsRead, KeepsResize, KeepsStart, KeepsSync, KeepsWrite, Leaves, LeavesAll, LeavesWhenGivenUp, OfOne, OpensApart}

-- the blobs that are apart from this one are as they were
abbrev pub Left : {S B : Type 0} → Ghosts S B → B → S → S → Type 0
Left c b s new = Leaves c.bytes c.left c.promised c.apart c.opened b s new

abbrev pub IsOpen : {S B : Type 0} → Ghosts S B → S → List ℕ → List ℕ → Result (B × ℕ) Error → S → List Noted → Type 0
IsOpen {B = B} c s partition name r new x =
    c.opens s partition name r new x × OpensApart c.bytes c.left c.promised c.apart c.opened (λ (a : B × ℕ). a.0) s r new

abbrev pub IsOpenVersioned : {S B : Type 0} → Ghosts S B → S → List ℕ → List ℕ → BlobVersion × BlobVersion → Result (B × ℕ × BlobVersion) Error → S → List Noted → Type 0
IsOpenVersioned {B = B} c s partition name versions r new x =
    c.opens_versioned s partition name versions r new x × OpensApart c.bytes c.left c.promised c.apart c.opened (λ (a : B × ℕ × BlobVersion). a.0) s r new

abbrev pub IsRead : {S B : Type 0} → Ghosts S B → S → B → ℕ → ℕ → ReadOptions → Result WritableChunks Error → S → List Noted → Type 0
IsRead c s b offset len options r new x =
    c.reads s b offset len options r new x × KeepsRead c.bytes s b offset len r new × LeavesAll c.bytes c.left c.promised c.apart c.opened s new

abbrev pub IsWrite : {S B : Type 0} → Ghosts S B → S → B → ℕ → Chunked → WriteOptions → Result Done Error → S → List Noted → Type 0
IsWrite c s b at w options r new x =
    c.writes s b at w options r new x
    × KeepsWrite c.bytes c.left c.promised s b at w options r new
    × LeavesWhenGivenUp c.bytes c.left c.promised c.apart c.opened c.gives_sync_up s b options r new
    × Left c b s new

abbrev pub IsResize : {S B : Type 0} → Ghosts S B → S → B → ℕ → Result Unit Error → S → List Noted → Type 0
IsResize c s b len r new x = c.resizes s b len r new x × KeepsResize c.bytes s b len r new × Left c b s new

abbrev pub IsSync : {S B : Type 0} → Ghosts S B → S → B → Result Done Error → S → List Noted → Type 0
IsSync c s b r new x = c.syncs s b r new x × KeepsSync c.bytes c.left c.promised s b r new × Left c b s new

abbrev pub IsStart : {S B : Type 0} → Ghosts S B → S → B → Result Ticket Error → S → List Noted → Type 0
IsStart c s b r new x = c.starts_sync s b r new x × KeepsStart c.bytes c.left c.promised s b r new × Left c b s new

abbrev pub IsPoll : {S B : Type 0} → Ghosts S B → S → Ticket → ℕ → Poll (Result Unit Error) → S → Ticket → List Noted → Type 0
IsPoll {B = B} c s t task p new held x =
    c.polls_sync s t task p new held x
    × KeepsPoll c.bytes c.left c.promised s t new held
    × OfOne c.promised c.apart s t
    × ((b : B) → IsOf c.promised s t b → Left c b s new)

abbrev pub IsGivenUp : {S B : Type 0} → Ghosts S B → S → Ticket → S → Type 0
IsGivenUp {B = B} c s t new = c.gives_sync_up s t new × OfOne c.promised c.apart s t × ((b : B) → IsOf c.promised s t b → Left c b s new)

abbrev pub IsClose : {S B : Type 0} → Ghosts S B → S → B → S → Type 0
IsClose c s b new = c.closes s b new × Left c b s new
