-- What a writer's calls do that wait or change its blob: each as a relation over the writer and its store before it, what it
-- came to, the two after it, and what it noted.
use Rattle.std.specs.Prelude.{◌≡◌, ◌⊎◌, ℕ, ◌+◌, ◌-◌, ◌*◌, ◌^◌, ◌==◌, min, ⊤, Bool, true, false, List, [], ◌∷◌, ◌++◌, length, Option, Some, None, Result, Ok, Err}
use Rattle.rt_base.specs.Counted.{Counts}
use Rattle.rt_base.specs.declared.error.Error.{Error}
use Rattle.rt_base.specs.declared.error.Error.TheVariants.{NoMemory}
use Rattle.rt_base.specs.declared.options.WriteOptions.{WriteOptions}
use Rattle.rt_base.specs.declared.poll.Poll.{Poll}
use Rattle.rt_base.specs.declared.poll.Poll.TheVariants as poll
use Rattle.rt_base.specs.Noted.{Noted}
use Rattle.rt_bufs.specs.Chunked.{Chunked}
use Rattle.rt_buffer.specs.Calls.{IsGivenUp, IsPoll, IsResize, IsStart, IsSync, IsWrite}
use Rattle.rt_store.specs.declared.storage.Storage.{Ghosts}
use Rattle.rt_buffer.specs.declared.held.Held.{Held}
use Rattle.rt_buffer.specs.declared.sync_state.SyncState.{SyncState}
use Rattle.rt_buffer.specs.declared.sync_state.SyncState.TheVariants.{Clean, Dirty, Started}
use Rattle.rt_buffer.specs.declared.write_op.Rest.{Rest}
use Rattle.rt_buffer.specs.declared.write_op.Rest.TheVariants as work
use Rattle.rt_buffer.specs.declared.write_op.Stepped.{Stepped}
use Rattle.rt_buffer.specs.declared.write_op.Stepped.TheVariants as step
use Rattle.rt_buffer.specs.declared.sync_handle.Begun.{Begun}
use Rattle.rt_buffer.specs.declared.sync_handle.Begun.TheVariants as begun
use Rattle.rt_buffer.specs.Pieces.{Pieces, merged_chunks}
use Rattle.rt_buffer.specs.Writing.{ClosesWriter, has_bytes, is_in_the_way}
use Rattle.rt_buffer.specs.Tip.{Tip, bytes_to_write, bytes_before, drained, is_within, merged, raised, resized_tip}
use Rattle.rt_store.specs.Answered.{CountsDone, CountsPoll, CountsStart, PollsTicket, is_numbered}
use Rattle.rt_store.specs.declared.ticket.Done.{Done}
use Rattle.rt_store.specs.declared.ticket.Done.TheVariants.{Now, Gated}
use Rattle.rt_store.specs.declared.ticket.Ticket.{Ticket}

-- what a step came to: it is done, or waits
abbrev pub Progress : Type 0
Progress = Result (Poll Unit) Error

abbrev pub is_done : Progress
is_done = Ok (poll.Ready tt)

pub record Writer (S : Type 0) : Type 0 where
  pub store : S
  pub held : Held

abbrev pub writer : {S : Type 0} → S → Held → Writer S
writer store held = record { store = store; held = held }

abbrev pub with_state : Held → SyncState → Held
with_state h state = record h { state = state }

abbrev pub with_tip : Held → Tip → Held
with_tip h tip = record h { tip = tip }

abbrev pub Act : Type 0 → Type 1
Act S = Writer S → Progress → Writer S → List Noted → Type 0

abbrev pub is_started : SyncState → Bool
is_started Clean = false
is_started Dirty = false
is_started (Started t) = true

abbrev pub IfStarted : SyncState → (Ticket → Type 0) → Type 0
IfStarted Clean f = ⊥
IfStarted Dirty f = ⊥
IfStarted (Started t) f = f t

-- the hints of a write, and the demand that it be durable
abbrev pub plain : WriteOptions
plain = record { sync = false; dont_cache = false }

abbrev pub durably : WriteOptions
durably = record { sync = true; dont_cache = false }

-- it is done, and nothing has changed
abbrev pub Rests : {S : Type 0} → Act S
Rests old r new x = (r ≡ is_done) × (new ≡ old) × (x ≡ [])

-- nothing was called, for lack of memory
abbrev pub Lacks : {S : Type 0} → Act S
Lacks old r new x = (r ≡ Err NoMemory) × (new.store ≡ old.store) × (new.held.state ≡ old.held.state) × (x ≡ [])

-- one act, and another where the first is done
abbrev pub Behind : {S : Type 0} → Act S → Progress → List Noted → Act S
Behind next (Ok (poll.Ready u)) y mid r new x = (z : List Noted) × (x ≡ y ++ z) × next mid r new z
Behind next (Ok poll.Pending) y mid r new x = (r ≡ Ok poll.Pending) × (new ≡ mid) × (x ≡ y)
Behind next (Err e) y mid r new x = (r ≡ Err e) × (new ≡ mid) × (x ≡ y)

abbrev pub Then : {S : Type 0} → Act S → Act S → Act S
Then {S} first next old r new x = (a : Progress) × (mid : Writer S) × (y : List Noted) × first old a mid y × Behind next a y mid r new x

-- a held ticket was polled: it goes where its sync is done, since it is ready then and none of the store's, and stays held else
abbrev pub Settled : {S : Type 0} → Poll (Result Unit Error) → S → Ticket → Held → Progress → Writer S → Type 0
Settled (poll.Ready (Ok u)) mid t held r new = (r ≡ is_done) × (new ≡ writer mid (with_state held Clean))
Settled (poll.Ready (Err e)) mid t held r new = (r ≡ Err e) × (new ≡ writer mid (with_state held (Started t)))
Settled poll.Pending mid t held r new = (r ≡ Ok poll.Pending) × (new ≡ writer mid (with_state held (Started t)))

-- the wait for a started sync. A ticket that is ready is none of the store's, and its poll leaves that as it was
abbrev pub WaitsFor : {S B : Type 0} → Ghosts S B → ℕ → SyncState → Act S
WaitsFor c task Clean old r new x = Rests old r new x
WaitsFor c task Dirty old r new x = Rests old r new x
WaitsFor {S} c task (Started t) old r new x =
    (p : Poll (Result Unit Error)) × (mid : S) × (held : Ticket) × IsPoll c old.store t task p mid held x
    × PollsTicket t p held × CountsPoll (c.refusals old.store) (c.refusals mid) t held × Settled p mid held old.held r new × (is_numbered t ≡ false → mid ≡ old.store)

abbrev pub Waits : {S B : Type 0} → Ghosts S B → ℕ → Act S
Waits c task old r new x = WaitsFor c task old.held.state old r new x

-- a durable change is done, or its ticket is held and polled
abbrev pub Settles : {S B : Type 0} → Ghosts S B → ℕ → Done → Act S
Settles c task Now old r new x = Rests (writer old.store (with_state old.held Clean)) r new x
Settles c task (Gated t) old r new x = Waits c task (writer old.store (with_state old.held (Started t))) r new x

abbrev pub SettlesBehind : {S B : Type 0} → Ghosts S B → ℕ → Result Done Error → List Noted → Act S
SettlesBehind c task (Ok d) y mid r new x = (z : List Noted) × (x ≡ y ++ z) × Settles c task d mid r new z
SettlesBehind c task (Err e) y mid r new x = (r ≡ Err e) × (new ≡ mid) × (x ≡ y)

-- a change that is durable once it is answered, with what its call may return, leave and note
abbrev pub Keeps : {S B : Type 0} → Ghosts S B → ℕ → (Result Done Error → S → List Noted → Type 0) → Act S
Keeps {S} c task change old r new x =
    (d : Result Done Error) × (mid : S) × (y : List Noted) × change d mid y × CountsDone (c.refusals old.store) (c.refusals mid) d
    × SettlesBehind c task d y (writer mid old.held) r new x

-- a sync of the blob
abbrev pub SyncsBlob : {S B : Type 0} → Ghosts S B → B → ℕ → Act S
SyncsBlob c blob task old r new x = Keeps c task (IsSync c old.store blob) old r new x

-- one durable write
abbrev pub WritesDurably : {S B : Type 0} → Ghosts S B → B → ℕ → ℕ → Chunked → Act S
WritesDurably c blob task offset bytes old r new x = Keeps c task (IsWrite c old.store blob offset bytes durably) old r new x

-- a write that needn't be durable: the blob counts as changed, and a ticket for it is given up
abbrev pub Changed : {S B : Type 0} → Ghosts S B → Result Done Error → S → Held → Progress → Writer S → Type 0
Changed c (Ok Now) mid held r new = (r ≡ is_done) × (new ≡ writer mid (with_state held Dirty))
Changed c (Ok (Gated t)) mid held r new = (r ≡ is_done) × IsGivenUp c mid t new.store × (new.held ≡ with_state held Dirty)
Changed c (Err e) mid held r new = (r ≡ Err e) × (new ≡ writer mid (with_state held Dirty))

abbrev pub WritesOut : {S B : Type 0} → Ghosts S B → B → ℕ → Chunked → Act S
WritesOut {S} c blob offset bytes old r new x =
    (d : Result Done Error) × (mid : S) × IsWrite c old.store blob offset bytes plain d mid x × CountsDone (c.refusals old.store) (c.refusals mid) d
    × Changed c d mid old.held r new

-- buffers of the bytes that are taken out of a tip, where there is memory for them
abbrev pub AreBuffers : Option (List ℕ × ℕ) → Result (Option (Chunked × ℕ)) Error → Type 0
AreBuffers taken (Ok None) = taken ≡ None
AreBuffers taken (Ok (Some b)) = taken ≡ Some (b.0.bytes, b.1)
AreBuffers taken (Err e) = e ≡ NoMemory

-- what is changed is made durable: by a sync, where a change is open
abbrev pub SavesChanges : {S B : Type 0} → Ghosts S B → B → ℕ → SyncState → Act S
SavesChanges c blob task Clean old r new x = Rests old r new x
SavesChanges c blob task Dirty old r new x = SyncsBlob c blob task old r new x
SavesChanges c blob task (Started t) old r new x = SyncsBlob c blob task old r new x

-- by one durable write of the tip where none is open, and else by a write and a sync
abbrev pub SavesBytes : {S B : Type 0} → Ghosts S B → B → ℕ → ℕ → Chunked → SyncState → Act S
SavesBytes c blob task offset bytes Clean old r new x = WritesDurably c blob task offset bytes old r new x
SavesBytes c blob task offset bytes Dirty old r new x = Then (WritesOut c blob offset bytes) (SyncsBlob c blob task) old r new x
SavesBytes c blob task offset bytes (Started t) old r new x = Then (WritesOut c blob offset bytes) (SyncsBlob c blob task) old r new x

-- with the bytes that a tip gave out, and the tip without them
abbrev pub SavesTaken : {S B : Type 0} → Ghosts S B → B → ℕ → Result (Option (Chunked × ℕ)) Error → Act S
SavesTaken c blob task (Err e) old r new x = Lacks old r new x
SavesTaken c blob task (Ok None) old r new x = SavesChanges c blob task old.held.state (writer old.store (with_tip old.held (drained old.held.tip))) r new x
SavesTaken c blob task (Ok (Some b)) old r new x = SavesBytes c blob task b.1 b.0 old.held.state (writer old.store (with_tip old.held (drained old.held.tip))) r new x

abbrev pub Saves : {S B : Type 0} → Ghosts S B → B → ℕ → Act S
Saves c blob task old r new x =
    (t : Result (Option (Chunked × ℕ)) Error) × AreBuffers (bytes_to_write old.held.tip) t × SavesTaken c blob task t old r new x

-- a change of the blob's length
abbrev pub progress_of : Result Unit Error → Progress
progress_of (Ok u) = is_done
progress_of (Err e) = Err e

abbrev pub ResizesBlob : {S B : Type 0} → Ghosts S B → B → ℕ → Act S
ResizesBlob {S} c blob len old r new x =
    (a : Result Unit Error) × (mid : S) × IsResize c old.store blob len a mid x × Counts (c.refusals old.store) (c.refusals mid) a
    × (r ≡ progress_of a) × (new ≡ writer mid (with_state old.held Dirty))

-- the same after a write of the bytes that the tip gave out for it
abbrev pub ResizesTaken : {S B : Type 0} → Ghosts S B → B → ℕ → Result (Option (Chunked × ℕ)) Error → Act S
ResizesTaken c blob len (Err e) old r new x = Lacks old r new x
ResizesTaken c blob len (Ok None) old r new x = ResizesBlob c blob len (writer old.store (with_tip old.held (resized_tip old.held.tip len))) r new x
ResizesTaken c blob len (Ok (Some b)) old r new x =
    Then (WritesOut c blob b.1 b.0) (ResizesBlob c blob len) (writer old.store (with_tip old.held (resized_tip old.held.tip len))) r new x

abbrev pub ResizesTip : {S B : Type 0} → Ghosts S B → B → ℕ → Act S
ResizesTip c blob len old r new x =
    (t : Result (Option (Chunked × ℕ)) Error) × AreBuffers (bytes_before old.held.tip len) t × ResizesTaken c blob len t old r new x

-- the bytes of the tip are written out, where it has any
abbrev pub DrainsTaken : {S B : Type 0} → Ghosts S B → B → Result (Option (Chunked × ℕ)) Error → Act S
DrainsTaken c blob (Err e) old r new x = Lacks old r new x
DrainsTaken c blob (Ok None) old r new x = Rests (writer old.store (with_tip old.held (drained old.held.tip))) r new x
DrainsTaken c blob (Ok (Some b)) old r new x = WritesOut c blob b.1 b.0 (writer old.store (with_tip old.held (drained old.held.tip))) r new x

abbrev pub Drains : {S B : Type 0} → Ghosts S B → B → Act S
Drains c blob old r new x =
    (t : Result (Option (Chunked × ℕ)) Error) × AreBuffers (bytes_to_write old.held.tip) t × DrainsTaken c blob t old r new x

-- a sync is started where a change is open; a sync that was started before is shared
abbrev pub next_sync : ℕ → ℕ
next_sync n = min (n + 1) (2 ^ 64 - 1)

abbrev pub HoldsStarted : {S : Type 0} → Result Ticket Error → S → Held → Progress → Writer S → Type 0
HoldsStarted (Ok t) mid held r new = (r ≡ is_done) × (new ≡ writer mid (record held { state = Started t; syncs = next_sync held.syncs }))
HoldsStarted (Err e) mid held r new = (r ≡ Err e) × (new ≡ writer mid held)

abbrev pub StartsSync : {S B : Type 0} → Ghosts S B → B → Act S
StartsSync {S} c blob old r new x =
    (a : Result Ticket Error) × (mid : S) × IsStart c old.store blob a mid x × CountsStart (c.refusals old.store) (c.refusals mid) a
    × HoldsStarted a mid old.held r new

abbrev pub BeginsFor : {S B : Type 0} → Ghosts S B → B → SyncState → Act S
BeginsFor c blob Clean old r new x = Rests old r new x
BeginsFor c blob Dirty old r new x = StartsSync c blob old r new x
BeginsFor c blob (Started t) old r new x = Rests old r new x

abbrev pub Begins : {S B : Type 0} → Ghosts S B → B → Act S
Begins c blob old r new x = BeginsFor c blob old.held.state old r new x

-- a chunk goes into the tip, where there is memory for it
abbrev pub MergesChunk : {S : Type 0} → ℕ → List ℕ → Act S
MergesChunk at chunk old (Ok p) new x = (p ≡ poll.Ready tt) × (new ≡ writer old.store (with_tip old.held (merged old.held.tip chunk at))) × (x ≡ [])
MergesChunk at chunk old (Err e) new x = (e ≡ NoMemory) × (new ≡ old) × (x ≡ [])

-- a chunk is written to the blob, and the tip begins no earlier than its end
abbrev pub raises : Held → ℕ → Held
raises h end = with_tip h (raised h.tip end)

abbrev pub Raised : {S : Type 0} → ℕ → Progress → Writer S → Writer S → Type 0
Raised end (Ok p) mid new = new ≡ writer mid.store (raises mid.held end)
Raised end (Err e) mid new = new ≡ mid

-- a buffer of a chunk, where there is memory for it
abbrev pub IsBuffer : List ℕ → Result Chunked Error → Type 0
IsBuffer chunk (Ok b) = b.bytes ≡ chunk
IsBuffer chunk (Err e) = e ≡ NoMemory

abbrev pub WritesBuffer : {S B : Type 0} → Ghosts S B → B → ℕ → ℕ → Result Chunked Error → Act S
WritesBuffer c blob at end (Err e) old r new x = Lacks old r new x
WritesBuffer {S} c blob at end (Ok b) old r new x = (mid : Writer S) × WritesOut c blob at b old r mid x × Raised end r mid new

abbrev pub WritesChunk : {S B : Type 0} → Ghosts S B → B → ℕ → List ℕ → Act S
WritesChunk c blob at chunk old r new x =
    (b : Result Chunked Error) × IsBuffer chunk b × WritesBuffer c blob at (at + length chunk) b old r new x

-- where it can't be merged: a tip that has bytes before its end is written out first, and then it is tried again
abbrev pub PutsPast : {S B : Type 0} → Ghosts S B → B → ℕ → List ℕ → Bool → Act S
PutsPast c blob at chunk true old r new x = MergesChunk at chunk old r new x
PutsPast c blob at chunk false old r new x = WritesChunk c blob at chunk old r new x

abbrev pub PutsAgain : {S B : Type 0} → Ghosts S B → B → ℕ → List ℕ → Act S
PutsAgain c blob at chunk old r new x = PutsPast c blob at chunk (is_within old.held.tip at (length chunk)) old r new x

abbrev pub PutsBeyond : {S B : Type 0} → Ghosts S B → B → ℕ → List ℕ → Bool → Act S
PutsBeyond c blob at chunk true old r new x = Then (Drains c blob) (PutsAgain c blob at chunk) old r new x
PutsBeyond c blob at chunk false old r new x = WritesChunk c blob at chunk old r new x

abbrev pub PutsFor : {S B : Type 0} → Ghosts S B → B → ℕ → List ℕ → Bool → Act S
PutsFor c blob at chunk true old r new x = MergesChunk at chunk old r new x
PutsFor c blob at chunk false old r new x = PutsBeyond c blob at chunk (is_in_the_way old.held.tip (at + length chunk)) old r new x

abbrev pub Puts : {S B : Type 0} → Ghosts S B → B → ℕ → List ℕ → Act S
Puts c blob at chunk old r new x = PutsFor c blob at chunk (is_within old.held.tip at (length chunk)) old r new x

-- chunk by chunk, each after the one before it
abbrev pub PutsChunks : {S B : Type 0} → Ghosts S B → B → ℕ → List (List ℕ) → Act S
PutsChunks c blob at [] old r new x = Rests old r new x
PutsChunks c blob at (chunk ∷ chunks) old r new x = Then (Puts c blob at chunk) (PutsChunks c blob (at + length chunk) chunks) old r new x

abbrev pub PutsAll : {S B : Type 0} → Ghosts S B → B → Pieces → Act S
PutsAll c blob p old r new x = PutsChunks c blob p.at p.chunks old r new x

-- how much of its environment that takes at most, by what a call of the store does
abbrev pub room_for : ℕ → Rest → ℕ
room_for most work.Nothing = 0
room_for most work.Sync = 3 * most
room_for most (work.Resize n) = 2 * most
room_for most (work.Write p) = length p.chunks * (2 * most)
room_for most work.Start = 2 * most

-- what a call does once no started sync is held
abbrev pub Finishes : {S B : Type 0} → Ghosts S B → B → Rest → ℕ → Act S
Finishes c blob work.Nothing task old r new x = Rests old r new x
Finishes c blob work.Sync task old r new x = Saves c blob task old r new x
Finishes c blob (work.Resize len) task old r new x = ResizesTip c blob len old r new x
Finishes c blob (work.Write p) task old r new x = PutsAll c blob p old r new x
Finishes c blob work.Start task old r new x = Then (Drains c blob) (Begins c blob) old r new x

-- an answer, with the writer in it by its blob and what it holds
abbrev pub seen_step : {W P H : Type 0} → (W → H) → (P → H × Rest) → Stepped W P → Stepped H (H × Rest)
seen_step writer waiting (step.Done w) = step.Done (writer w)
seen_step writer waiting (step.Waiting p) = step.Waiting (waiting p)
seen_step writer waiting (step.Failed e) = step.Failed e

-- the writer has this blob, and is otherwise as it was left
abbrev pub IsLeft : {S B : Type 0} → B → Writer S → S → B × Held → Type 0
IsLeft blob left store w = (w.0 ≡ blob) × (w.1 ≡ left.held) × (store ≡ left.store)

-- what a call returns: the writer where it is done, the writer and what is left to do where it waits, and else the error, and
-- then the blob is closed
abbrev pub Ends : {S B : Type 0} → Ghosts S B → B → Rest → Progress → Writer S → S → Stepped (B × Held) ((B × Held) × Rest) → Type 0
Ends c blob rest (Ok (poll.Ready u)) left store (step.Done w) = IsLeft blob left store w
Ends c blob rest (Ok poll.Pending) left store (step.Waiting p) = IsLeft blob left store p.0 × (p.1 ≡ rest)
Ends c blob rest (Err e) left store (step.Failed f) = (f ≡ e) × ClosesWriter c left.held.state blob left.store store
Ends c blob rest r left store s = ⊥

-- a call waits for a started sync, and does its work where that is done: a wait keeps the work for later
abbrev pub RunsBehind : {S B : Type 0} → Ghosts S B → B → Rest → ℕ → Progress → List Noted → Writer S → S → Stepped (B × Held) ((B × Held) × Rest) → List Noted → Type 0
RunsBehind {S} c blob rest task (Ok (poll.Ready u)) y mid store s x =
    (z : List Noted) × (x ≡ y ++ z) × (r : Progress) × (left : Writer S) × Finishes c blob rest task mid r left z × Ends c blob work.Nothing r left store s
RunsBehind c blob rest task (Ok poll.Pending) y mid store s x = (x ≡ y) × Ends c blob rest (Ok poll.Pending) mid store s
RunsBehind c blob rest task (Err e) y mid store s x = (x ≡ y) × Ends c blob rest (Err e) mid store s

abbrev pub Runs : {S B : Type 0} → Ghosts S B → B → Rest → ℕ → Writer S → S → Stepped (B × Held) ((B × Held) × Rest) → List Noted → Type 0
Runs {S} c blob rest task old store s x =
    (a : Progress) × (mid : Writer S) × (y : List Noted) × Waits c task old a mid y × RunsBehind c blob rest task a y mid store s x

-- a write: what goes into the tip goes there with no wait, and the call waits before it writes the others
abbrev pub WritesLeft : {S B : Type 0} → Ghosts S B → B → ℕ → Writer S → Pieces → S → Stepped (B × Held) ((B × Held) × Rest) → List Noted → Type 0
WritesLeft c blob task old p store s x = elim p.chunks [
  | [] ↦ Ends c blob work.Nothing is_done old store s × (x ≡ [])
  | chunk ∷ chunks ↦ Runs c blob (work.Write p) task old store s x
]

-- there was no memory to put a chunk into the tip
abbrev pub LosesTip : {S B : Type 0} → Ghosts S B → B → Writer S → S → Stepped (B × Held) ((B × Held) × Rest) → List Noted → Type 0
LosesTip c blob old store s x = (s ≡ step.Failed NoMemory) × ClosesWriter c old.held.state blob old.store store × (x ≡ [])

-- a write that ends within numbers: of the chunks, as many as lie within the tip's reach one after the other go into it
abbrev pub WritesAt : {S B : Type 0} → Ghosts S B → B → ℕ → List (List ℕ) → ℕ → Writer S → S → Stepped (B × Held) ((B × Held) × Rest) → List Noted → Type 0
WritesAt c blob offset chunks task old store s x =
    LosesTip c blob old store s x
    ⊎ WritesLeft c blob task (writer old.store (with_tip old.held (merged_chunks old.held.tip offset chunks).tip)) (merged_chunks old.held.tip offset chunks).left store s x

-- the answer of a start, by that of the call that started the sync
abbrev pub with_handle : {B : Type 0} → Stepped (B × Held) ((B × Held) × Rest) → Begun (B × Held) ((B × Held) × Rest)
with_handle (step.Done w) = begun.Done w (record { number = w.1.syncs })
with_handle (step.Waiting p) = begun.Waiting p
with_handle (step.Failed e) = begun.Failed e

abbrev pub seen_start : {W P H : Type 0} → (W → H) → (P → H × Rest) → Begun W P → Begun H (H × Rest)
seen_start writer waiting (begun.Done w h) = begun.Done (writer w) h
seen_start writer waiting (begun.Waiting p) = begun.Waiting (waiting p)
seen_start writer waiting (begun.Failed e) = begun.Failed e

-- a start gives the writer of this blob back, and where it is done a handle of the sync that the writer holds
abbrev pub GivesHandle : {B W P : Type 0} → B → (W → B × Held) → (P → B) → Begun W P → Type 0
GivesHandle blob writer waiting (begun.Done w h) = ((writer w).0 ≡ blob) × (h.number ≡ (writer w).1.syncs)
GivesHandle blob writer waiting (begun.Waiting p) = waiting p ≡ blob
GivesHandle blob writer waiting (begun.Failed e) = ⊤

-- a start with an empty tip changes no byte, and so it waits for nothing
abbrev pub StartsFor : {S B : Type 0} → Ghosts S B → B → ℕ → Bool → Writer S → S → Stepped (B × Held) ((B × Held) × Rest) → List Noted → Type 0
StartsFor c blob task true old store s x = Runs c blob work.Start task old store s x
StartsFor {S} c blob task false old store s x = (r : Progress) × (left : Writer S) × Begins c blob old r left x × Ends c blob work.Nothing r left store s

abbrev pub Starts : {S B : Type 0} → Ghosts S B → B → ℕ → Writer S → S → Begun (B × Held) ((B × Held) × Rest) → List Noted → Type 0
Starts {S} {B} c blob task old store b x =
    (s : Stepped (B × Held) ((B × Held) × Rest)) × StartsFor c blob task (has_bytes old.held.tip.bytes) old store s x × (b ≡ with_handle s)

-- a handle is of the sync that the writer holds, or of one that it holds no longer
abbrev pub answer_of : Poll (Result Unit Error) → Progress
answer_of (poll.Ready (Ok u)) = is_done
answer_of (poll.Ready (Err e)) = Err e
answer_of poll.Pending = Ok poll.Pending

abbrev pub PollsFor : {S B : Type 0} → Ghosts S B → ℕ → Bool → Act S
PollsFor c task true old r new x = Waits c task old r new x
PollsFor c task false old r new x = Rests old r new x

abbrev pub PollsHandle : {S B : Type 0} → Ghosts S B → ℕ → ℕ → Act S
PollsHandle c number task old r new x = PollsFor c task (old.held.syncs == number) old r new x
