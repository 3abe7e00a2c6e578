-- One step of a writer behind another.
use Rattle.rt_buffer.proofs.Prelude.{◌≡◌, ◌≤◌, ◌*◌, arith, inr, ℕ, ◌+◌, Bool, true, false, List, [], ◌∷◌, ◌++◌, length, Option, Some, None, Result, Ok, Err, refl, subst, slice_get, suc-mul, Error, NoMemory, Noted, Notes, WriteOptions, Chunked, IsGivenUp, IsWrite, Ghosts, Held, SyncState, Clean, Dirty, Started, Rest, Stepped, Begun, Pieces, merged_chunks, passed, pieces, Tip, bytes_to_write, bytes_before, drained, is_within, resized_tip, has_bytes, is_clean, is_in_the_way, Progress, Writer, writer, Act, Then, Settles, WritesOut, with_state, with_tip, plain, AreBuffers, SyncsBlob, Saves, SavesBytes, SavesChanges, WritesDurably, WritesChunk, Raised, Puts, PutsAgain, PutsAll, PutsChunks, ResizesBlob, ResizesTip, Drains, Waits, Finishes, Ends, GivesHandle, Runs, RunsBehind, Begins, Starts, StartsFor, WritesLeft, seen_start, with_handle, is_done, CountsDone, PollsTicket, is_numbered, Done, Now, Gated, Ticket, sym, Poll, IsPoll, CountsPoll, Settled, WaitsFor}
use Rattle.rt_base.specs.declared.poll.Poll.TheVariants as poll
use Rattle.rt_buffer.specs.declared.write_op.Rest.TheVariants as work
use Rattle.rt_buffer.specs.declared.write_op.Stepped.TheVariants as step
use Rattle.rt_buffer.specs.declared.sync_handle.Begun.TheVariants as begun
use Rattle.rt_buffer.specs.Steps.{Keeps, WritesAt}
use Rattle.rt_store.specs.declared.ticket.Ticket.TheVariants as ticket
use Rattle.rt_buffer.proofs.Noting.{adds_both, adds_none}

pub then_done : {S : Type 0} (first next : Act S) (old mid new : Writer S) (a r : Progress) (before between behind : Option (List Noted))
    → a ≡ Ok (poll.Ready tt) → Notes before (λ y. first old a mid y) between → Notes between (λ z. next mid r new z) behind
    → Notes before (λ x. Then first next old r new x) behind
then_done first next old mid new a r before between behind done h k =
    (h.0 ++ k.0, adds_both before between behind h.0 k.0 h.1 k.1, (a, mid, h.0, h.2, rw done (k.0, refl, k.2)))

pub then_waits : {S : Type 0} (first next : Act S) (old mid : Writer S) (a : Progress) (before between : Option (List Noted))
    → a ≡ Ok poll.Pending → Notes before (λ y. first old a mid y) between → Notes before (λ x. Then first next old (Ok poll.Pending) mid x) between
then_waits first next old mid a before between waits h = (h.0, h.1, (a, mid, h.0, h.2, rw waits (refl, refl, refl)))

pub then_refused : {S : Type 0} (first next : Act S) (old mid : Writer S) (a : Progress) (e : Error) (before between : Option (List Noted))
    → a ≡ Err e → Notes before (λ y. first old a mid y) between → Notes before (λ x. Then first next old (Err e) mid x) between
then_refused first next old mid a e before between refused h = (h.0, h.1, (a, mid, h.0, h.2, rw refused (refl, refl, refl)))

-- a poll that is answered leaves a ticket that is ready
pub polled_ready : (old new : Ticket) (r : Result Unit Error) → PollsTicket old (poll.Ready r) new → is_numbered new ≡ false
polled_ready (ticket.Ready a) new r did = rw did.1 refl
polled_ready (ticket.Numbered n) new r did = rw did.1 refl

-- a started sync was polled
pub waited : {S B : Type 0} (c : Ghosts S B) (task : ℕ) (store mid : S) (held : Held) (t after : Ticket) (p : Poll (Result Unit Error)) (r : Progress) (new : Writer S) (before between : Option (List Noted))
    → held.state ≡ Started t → Notes before (λ x. IsPoll c store t task p mid after x) between → PollsTicket t p after → CountsPoll (c.refusals store) (c.refusals mid) t after
    → Settled p mid after held r new → (is_numbered t ≡ false → mid ≡ store)
    → Notes before (λ x. Waits c task (writer store held) r new x) between
waited c task store mid held t after p r new before between is h polls counts settled ready =
    let there : WaitsFor c task (Started t) (writer store held) r new h.0 = (p, mid, after, h.2, polls, counts, settled, ready) in
    (h.0, h.1, subst (λ (s : SyncState). WaitsFor c task s (writer store held) r new h.0) (sym is) there)

-- a durable change, and what is done with its ticket
pub settled_behind : {S B : Type 0} (c : Ghosts S B) (task : ℕ) (change : Result Done Error → S → List Noted → Type 0) (first : Result Done Error) (d : Done) (old mid : S) (held : Held) (r : Progress) (new : Writer S) (before between behind : Option (List Noted))
    → first ≡ Ok d → Notes before (λ y. change first mid y) between → CountsDone (c.refusals old) (c.refusals mid) first
    → Notes between (λ z. Settles c task d (writer mid held) r new z) behind
    → Notes before (λ x. Keeps c task change (writer old held) r new x) behind
settled_behind c task change first d old mid held r new before between behind done h counts k =
    (h.0 ++ k.0, adds_both before between behind h.0 k.0 h.1 k.1, (first, mid, h.0, h.2, counts, rw done (k.0, refl, k.2)))

-- a write that needn't be durable
pub out_now : {S B : Type 0} (c : Ghosts S B) (blob : B) (offset : ℕ) (bytes : Chunked)
    (store mid : S) (held after : Held) (options : WriteOptions) (first : Result Done Error) (d : Done) (before between : Option (List Noted))
    → first ≡ Ok d → d ≡ Now → after ≡ with_state held Dirty → options ≡ plain → Notes before (λ x. IsWrite c store blob offset bytes options first mid x) between → CountsDone (c.refusals store) (c.refusals mid) first
    → Notes before (λ x. WritesOut c blob offset bytes (writer store held) is_done (writer mid after) x) between
out_now c blob offset bytes store mid held after options first d before between answers now same is h counts =
    (h.0, h.1, (first, mid, rw is at h.2, counts, rw (answers, now, same) (refl, refl)))

pub out_gated : {S B : Type 0} (c : Ghosts S B) (blob : B) (offset : ℕ) (bytes : Chunked)
    (store mid left : S) (held after : Held) (options : WriteOptions) (first : Result Done Error) (d : Done) (t : Ticket) (before between : Option (List Noted))
    → first ≡ Ok d → d ≡ Gated t → after ≡ with_state held Dirty → options ≡ plain → Notes before (λ x. IsWrite c store blob offset bytes options first mid x) between → CountsDone (c.refusals store) (c.refusals mid) first → IsGivenUp c mid t left
    → Notes before (λ x. WritesOut c blob offset bytes (writer store held) is_done (writer left after) x) between
out_gated c blob offset bytes store mid left held after options first d t before between answers gated same is h counts up =
    (h.0, h.1, (first, mid, rw is at h.2, counts, rw (answers, gated) (refl, up, same)))

-- a tip is written out and all is synced, where a change is open
saves_open : {S B : Type 0} (c : Ghosts S B) (blob : B) (task offset : ℕ) (bytes : Chunked) (state : SyncState) (old : Writer S) (r : Progress) (new : Writer S) (x : List Noted)
    → is_clean state ≡ false → Then (WritesOut c blob offset bytes) (SyncsBlob c blob task) old r new x → SavesBytes c blob task offset bytes state old r new x
saves_open c blob task offset bytes Clean old r new x changed did = absurd (cc)
saves_open c blob task offset bytes Dirty old r new x changed did = did
saves_open c blob task offset bytes (Started t) old r new x changed did = did

saves_changes : {S B : Type 0} (c : Ghosts S B) (blob : B) (task : ℕ) (state : SyncState) (old : Writer S) (r : Progress) (new : Writer S) (x : List Noted)
    → is_clean state ≡ false → SyncsBlob c blob task old r new x → SavesChanges c blob task state old r new x
saves_changes c blob task Clean old r new x changed did = absurd (cc)
saves_changes c blob task Dirty old r new x changed did = did
saves_changes c blob task (Started t) old r new x changed did = did

saves_clean : {S B : Type 0} (c : Ghosts S B) (blob : B) (task offset : ℕ) (bytes : Chunked) (state : SyncState) (old : Writer S) (r : Progress) (new : Writer S) (x : List Noted)
    → is_clean state ≡ true → WritesDurably c blob task offset bytes old r new x → SavesBytes c blob task offset bytes state old r new x
saves_clean c blob task offset bytes Clean old r new x unchanged did = did
saves_clean c blob task offset bytes Dirty old r new x unchanged did = absurd (cc)
saves_clean c blob task offset bytes (Started t) old r new x unchanged did = absurd (cc)

pub saves_written : {S B : Type 0} (c : Ghosts S B) (blob : B) (task : ℕ) (taken : Result (Option (Chunked × ℕ)) Error) (bytes : Chunked) (offset : ℕ) (store : S) (held after : Held) (r : Progress) (new : Writer S) (before between : Option (List Noted))
    → taken ≡ Ok (Some (bytes, offset)) → AreBuffers (bytes_to_write held.tip) taken → after ≡ with_tip held (drained held.tip) → is_clean held.state ≡ false
    → Notes before (λ x. Then (WritesOut c blob offset bytes) (SyncsBlob c blob task) (writer store after) r new x) between
    → Notes before (λ x. Saves c blob task (writer store held) r new x) between
saves_written c blob task taken bytes offset store held after r new before between is are gone changed h =
    (h.0, h.1, (taken, are, rw is (saves_open c blob task offset bytes held.state (writer store (with_tip held (drained held.tip))) r new h.0 changed (rw gone at h.2))))

-- a tip is written out before its blob gets a new length
pub resizes_written : {S B : Type 0} (c : Ghosts S B) (blob : B) (len : ℕ) (taken : Result (Option (Chunked × ℕ)) Error) (bytes : Chunked) (offset : ℕ) (store : S) (held after : Held) (r : Progress) (new : Writer S) (before between : Option (List Noted))
    → taken ≡ Ok (Some (bytes, offset)) → AreBuffers (bytes_before held.tip len) taken → after ≡ with_tip held (resized_tip held.tip len)
    → Notes before (λ x. Then (WritesOut c blob offset bytes) (ResizesBlob c blob len) (writer store after) r new x) between
    → Notes before (λ x. ResizesTip c blob len (writer store held) r new x) between
resizes_written c blob len taken bytes offset store held after r new before between is are gone h =
    (h.0, h.1, (taken, are, rw is (rw gone at h.2)))

pub resizes_alone : {S B : Type 0} (c : Ghosts S B) (blob : B) (len : ℕ) (taken : Result (Option (Chunked × ℕ)) Error) (store : S) (held after : Held) (r : Progress) (new : Writer S) (before between : Option (List Noted))
    → taken ≡ Ok None → AreBuffers (bytes_before held.tip len) taken → after ≡ with_tip held (resized_tip held.tip len)
    → Notes before (λ x. ResizesBlob c blob len (writer store after) r new x) between
    → Notes before (λ x. ResizesTip c blob len (writer store held) r new x) between
resizes_alone c blob len taken store held after r new before between is are gone h =
    (h.0, h.1, (taken, are, rw is (rw gone at h.2)))

-- a tip is written out
pub drains_written : {S B : Type 0} (c : Ghosts S B) (blob : B) (taken : Result (Option (Chunked × ℕ)) Error) (bytes : Chunked) (offset : ℕ) (store : S) (held after : Held) (r : Progress) (new : Writer S) (before between : Option (List Noted))
    → taken ≡ Ok (Some (bytes, offset)) → AreBuffers (bytes_to_write held.tip) taken → after ≡ with_tip held (drained held.tip)
    → Notes before (λ x. WritesOut c blob offset bytes (writer store after) r new x) between
    → Notes before (λ x. Drains c blob (writer store held) r new x) between
drains_written c blob taken bytes offset store held after r new before between is are gone h =
    (h.0, h.1, (taken, are, rw is (rw gone at h.2)))

-- a call that waited goes on
pub runs_on : {S B : Type 0} (c : Ghosts S B) (blob : B) (rest : Rest) (task : ℕ) (old mid left : Writer S) (a r : Progress) (store : S) (s : Stepped (B × Held) ((B × Held) × Rest)) (before between behind : Option (List Noted))
    → a ≡ is_done → Notes before (λ y. Waits c task old a mid y) between → Notes between (λ z. Finishes c blob rest task mid r left z) behind → Ends c blob work.Nothing r left store s
    → Notes before (λ x. Runs c blob rest task old store s x) behind
runs_on c blob rest task old mid left a r store s before between behind done h k ends =
    (h.0 ++ k.0, adds_both before between behind h.0 k.0 h.1 k.1, (a, mid, h.0, h.2, rw done (k.0, refl, r, left, k.2, ends)))

-- a chunk is written to the blob
pub writes_buffer : {S B : Type 0} (c : Ghosts S B) (blob : B) (at end : ℕ) (chunk : List ℕ) (buffer : Chunked) (old mid new : Writer S) (a r : Progress) (before between : Option (List Noted))
    → buffer.bytes ≡ chunk → end ≡ at + length chunk → a ≡ r → Notes before (λ x. WritesOut c blob at buffer old a mid x) between → Raised end r mid new
    → Notes before (λ x. WritesChunk c blob at chunk old r new x) between
writes_buffer c blob at end chunk buffer old mid new a r before between are ends same h raised =
    let did : WritesOut c blob at buffer old r mid h.0 = rw same at h.2 in
    (h.0, h.1, (Ok buffer, are, (mid, did, rw ends at raised)))

-- there is no memory for a buffer of it
pub lacks_buffer : {S B : Type 0} (c : Ghosts S B) (blob : B) (at : ℕ) (chunk : List ℕ) (old : Writer S) (r : Progress) (noted : Option (List Noted))
    → r ≡ Err NoMemory → Notes noted (λ x. WritesChunk c blob at chunk old r old x) noted
lacks_buffer c blob at chunk old r noted lacks = ([], adds_none noted, (Err NoMemory, refl, (lacks, refl, refl, refl)))

-- a chunk is put where it doesn't lie within the tip's reach
pub puts_again : {S B : Type 0} (c : Ghosts S B) (blob : B) (at : ℕ) (chunk : List ℕ) (old new : Writer S) (r : Progress) (before between : Option (List Noted))
    → is_within old.held.tip at (length chunk) ≡ false → Notes before (λ x. WritesChunk c blob at chunk old r new x) between → Notes before (λ x. PutsAgain c blob at chunk old r new x) between
puts_again c blob at chunk old new r before between beyond h = (h.0, h.1, rw beyond h.2)

pub puts_there : {S B : Type 0} (c : Ghosts S B) (blob place : B) (at : ℕ) (chunk : List ℕ) (store : S) (held moved : Held) (new : Writer S) (r : Progress) (before between : Option (List Noted))
    → place ≡ blob → moved ≡ held → is_within held.tip at (length chunk) ≡ false → is_in_the_way held.tip (at + length chunk) ≡ false
    → Notes before (λ x. WritesChunk c place at chunk (writer store moved) r new x) between → Notes before (λ x. Puts c blob at chunk (writer store held) r new x) between
puts_there c blob place at chunk store held moved new r before between there same beyond free h =
    let did : WritesChunk c blob at chunk (writer store held) r new h.0 =
    subst (λ m. WritesChunk c blob at chunk (writer store m) r new h.0) same (subst (λ b. WritesChunk c b at chunk (writer store moved) r new h.0) there h.2) in
    (h.0, h.1, rw (beyond, free) did)

pub puts_behind : {S B : Type 0} (c : Ghosts S B) (blob place : B) (at : ℕ) (chunk : List ℕ) (store : S) (held moved : Held) (new : Writer S) (r : Progress) (before between : Option (List Noted))
    → place ≡ blob → moved ≡ held → is_within held.tip at (length chunk) ≡ false → is_in_the_way held.tip (at + length chunk) ≡ true
    → Notes before (λ x. Then (Drains c place) (PutsAgain c place at chunk) (writer store moved) r new x) between → Notes before (λ x. Puts c blob at chunk (writer store held) r new x) between
puts_behind c blob place at chunk store held moved new r before between there same beyond way h =
    let did : Then (Drains c blob) (PutsAgain c blob at chunk) (writer store held) r new h.0 =
    subst (λ m. Then (Drains c blob) (PutsAgain c blob at chunk) (writer store m) r new h.0) same
    (subst (λ b. Then (Drains c b) (PutsAgain c b at chunk) (writer store moved) r new h.0) there h.2) in
    (h.0, h.1, rw (beyond, way) did)

-- one chunk is put, and then the others
pub puts_first : {S B : Type 0} (c : Ghosts S B) (blob : B) (at : ℕ) (chunks : List (List ℕ)) (chunk : List ℕ) (left : Pieces) (old mid : Writer S) (a : Progress) (before between : Option (List Noted))
    → slice_get chunks 0 ≡ Some chunk → left ≡ passed at chunks → a ≡ is_done → Notes before (λ y. Puts c blob at chunk old a mid y) between
    → (r : Progress) (new : Writer S) (behind : Option (List Noted)) → Notes between (λ z. PutsAll c blob left mid r new z) behind → Notes before (λ x. PutsChunks c blob at chunks old r new x) behind
puts_first c blob at [] chunk left old mid a before between first passes done h r new behind k = absurd (cc)
puts_first c blob at (d ∷ chunks) chunk left old mid a before between first passes done h r new behind k =
    let same : chunk ≡ d = cc in
    then_done (Puts c blob at d) (PutsChunks c blob (at + length d) chunks) old mid new a r before between behind done (rw same at h) (rw passes at k)

pub puts_refused : {S B : Type 0} (c : Ghosts S B) (blob : B) (at : ℕ) (chunks : List (List ℕ)) (chunk : List ℕ) (old mid : Writer S) (a r : Progress) (e : Error) (before between : Option (List Noted))
    → slice_get chunks 0 ≡ Some chunk → a ≡ Err e → r ≡ Err e → Notes before (λ y. Puts c blob at chunk old a mid y) between → Notes before (λ x. PutsChunks c blob at chunks old r mid x) between
puts_refused c blob at [] chunk old mid a r e before between first refused answers h = absurd (cc)
puts_refused c blob at (d ∷ chunks) chunk old mid a r e before between first refused answers h =
    let same : chunk ≡ d = cc in
    rw answers (then_refused (Puts c blob at d) (PutsChunks c blob (at + length d) chunks) old mid a e before between refused (rw same at h))

pub puts_waits : {S B : Type 0} (c : Ghosts S B) (blob : B) (at : ℕ) (chunks : List (List ℕ)) (chunk : List ℕ) (old mid : Writer S) (a : Progress) (before between : Option (List Noted))
    → slice_get chunks 0 ≡ Some chunk → a ≡ Ok poll.Pending → Notes before (λ y. Puts c blob at chunk old a mid y) between → Notes before (λ x. PutsChunks c blob at chunks old (Ok poll.Pending) mid x) between
puts_waits c blob at [] chunk old mid a before between first waits h = absurd (cc)
puts_waits c blob at (d ∷ chunks) chunk old mid a before between first waits h =
    let same : chunk ≡ d = cc in
    then_waits (Puts c blob at d) (PutsChunks c blob (at + length d) chunks) old mid a before between waits (rw same at h)

-- no chunk is left
pub puts_none : {S B : Type 0} (c : Ghosts S B) (blob : B) (at : ℕ) (chunks : List (List ℕ)) (old : Writer S) (noted : Option (List Noted))
    → slice_get chunks 0 ≡ None → Notes noted (λ x. PutsChunks c blob at chunks old is_done old x) noted
puts_none c blob at [] old noted none = ([], adds_none noted, (refl, refl, refl))
puts_none c blob at (d ∷ chunks) old noted none = absurd (cc)

-- nothing to save
pub saves_all : {S B : Type 0} (c : Ghosts S B) (blob : B) (task : ℕ) (taken : Result (Option (Chunked × ℕ)) Error) (store : S) (held after : Held) (r : Progress) (new : Writer S) (before between : Option (List Noted))
    → taken ≡ Ok None → AreBuffers (bytes_to_write held.tip) taken → after ≡ with_tip held (drained held.tip) → is_clean held.state ≡ false
    → Notes before (λ x. SyncsBlob c blob task (writer store after) r new x) between
    → Notes before (λ x. Saves c blob task (writer store held) r new x) between
saves_all c blob task taken store held after r new before between is are gone changed h =
    (h.0, h.1, (taken, are, rw is (saves_changes c blob task held.state (writer store (with_tip held (drained held.tip))) r new h.0 changed (rw gone at h.2))))

pub saves_durably : {S B : Type 0} (c : Ghosts S B) (blob : B) (task : ℕ) (taken : Result (Option (Chunked × ℕ)) Error) (bytes : Chunked) (offset : ℕ) (store : S) (held after : Held) (r : Progress) (new : Writer S) (before between : Option (List Noted))
    → taken ≡ Ok (Some (bytes, offset)) → AreBuffers (bytes_to_write held.tip) taken → after ≡ with_tip held (drained held.tip) → is_clean held.state ≡ true
    → Notes before (λ x. WritesDurably c blob task offset bytes (writer store after) r new x) between
    → Notes before (λ x. Saves c blob task (writer store held) r new x) between
saves_durably c blob task taken bytes offset store held after r new before between is are gone unchanged h =
    (h.0, h.1, (taken, are, rw is (saves_clean c blob task offset bytes held.state (writer store (with_tip held (drained held.tip))) r new h.0 unchanged (rw gone at h.2))))

pub runs_waits : {S B : Type 0} (c : Ghosts S B) (blob : B) (rest : Rest) (task : ℕ) (old mid : Writer S) (a : Progress) (store : S) (s : Stepped (B × Held) ((B × Held) × Rest)) (before between : Option (List Noted))
    → a ≡ Ok poll.Pending → Notes before (λ y. Waits c task old a mid y) between → Ends c blob rest (Ok poll.Pending) mid store s
    → Notes before (λ x. Runs c blob rest task old store s x) between
runs_waits c blob rest task old mid a store s before between waits h ends = (h.0, h.1, (a, mid, h.0, h.2, rw waits (refl, ends)))

pub runs_fails : {S B : Type 0} (c : Ghosts S B) (blob : B) (rest : Rest) (task : ℕ) (old mid : Writer S) (a : Progress) (e : Error) (store : S) (s : Stepped (B × Held) ((B × Held) × Rest)) (before between : Option (List Noted))
    → a ≡ Err e → Notes before (λ y. Waits c task old a mid y) between → Ends c blob rest (Err e) mid store s
    → Notes before (λ x. Runs c blob rest task old store s x) between
runs_fails c blob rest task old mid a e store s before between fails h ends = (h.0, h.1, (a, mid, h.0, h.2, rw fails (refl, ends)))

no : false ≡ true → ⊥
no e = cc

-- the chunks that a tip didn't take
left_runs : {S B : Type 0} (c : Ghosts S B) (blob : B) (task at : ℕ) (chunks : List (List ℕ)) (old : Writer S) (store : S) (s : Stepped (B × Held) ((B × Held) × Rest)) (x : List Noted)
    → (chunks ≡ [] → false ≡ true) → Runs c blob (work.Write (pieces at chunks)) task old store s x → WritesLeft c blob task old (pieces at chunks) store s x
left_runs c blob task at [] old store s x some did = absurd (no (some refl))
left_runs c blob task at (d ∷ chunks) old store s x some did = did

pub writes_left : {S B : Type 0} (c : Ghosts S B) (blob : B) (offset : ℕ) (chunks : List (List ℕ)) (task : ℕ) (store : S) (held : Held) (tip : Tip) (left : Pieces) (new : S) (s : Stepped (B × Held) ((B × Held) × Rest)) (before between : Option (List Noted))
    → tip ≡ (merged_chunks held.tip offset chunks).tip → left ≡ (merged_chunks held.tip offset chunks).left → (left.chunks ≡ [] → false ≡ true)
    → Notes before (λ x. Runs c blob (work.Write left) task (writer store (with_tip held tip)) new s x) between
    → Notes before (λ x. WritesAt c blob offset chunks task (writer store held) new s x) between
writes_left c blob offset chunks task store held tip left new s before between tips lefts some h =
    let did : WritesLeft c blob task (writer store (with_tip held tip)) left new s h.0 = left_runs c blob task left.at left.chunks (writer store (with_tip held tip)) new s h.0 some h.2 in
    let at : WritesLeft c blob task (writer store (with_tip held (merged_chunks held.tip offset chunks).tip)) (merged_chunks held.tip offset chunks).left new s h.0 = rw (tips, lefts) at did in
    (h.0, h.1, inr at)

-- a start, by whether bytes are held
pub starts_behind : {S B : Type 0} (c : Ghosts S B) (blob : B) (task : ℕ) (old : Writer S) (store : S) (s : Stepped (B × Held) ((B × Held) × Rest)) (b : Begun (B × Held) ((B × Held) × Rest)) (before between : Option (List Noted))
    → has_bytes old.held.tip.bytes ≡ true → Notes before (λ x. Runs c blob work.Start task old store s x) between → b ≡ with_handle s
    → Notes before (λ x. Starts c blob task old store b x) between
starts_behind c blob task old store s b before between some h is = (h.0, h.1, (s, rw some h.2, is))

pub starts_at_once : {S B : Type 0} (c : Ghosts S B) (blob : B) (task : ℕ) (old left : Writer S) (r : Progress) (store : S) (s : Stepped (B × Held) ((B × Held) × Rest)) (b : Begun (B × Held) ((B × Held) × Rest)) (before between : Option (List Noted))
    → has_bytes old.held.tip.bytes ≡ false → Notes before (λ x. Begins c blob old r left x) between → Ends c blob work.Nothing r left store s → b ≡ with_handle s
    → Notes before (λ x. Starts c blob task old store b x) between
starts_at_once c blob task old left r store s b before between none h ends is = (h.0, h.1, (s, rw none (r, left, h.2, ends), is))

pub none_has : (bytes : List ℕ) → bytes ≡ [] → has_bytes bytes ≡ false
none_has [] none = refl
none_has (b ∷ bs) none = absurd (cc)

pub some_has : (bytes : List ℕ) → (bytes ≡ [] → false ≡ true) → has_bytes bytes ≡ true
some_has [] some = absurd (no (some refl))
some_has (b ∷ bs) some = refl

-- What a start gives back.

abbrev Handed : {B : Type 0} → B → Begun (B × Held) ((B × Held) × Rest) → Type 0
Handed blob g = GivesHandle blob (λ w. w) (λ p. p.0.0) g

ends_handle : {S B : Type 0} (c : Ghosts S B) (blob : B) (rest : Rest) (r : Progress) (left : Writer S) (store : S) (s : Stepped (B × Held) ((B × Held) × Rest)) → Ends c blob rest r left store s → Handed blob (with_handle s)
ends_handle c blob rest (Ok (poll.Ready u)) left store (step.Done w) did = (did.0, refl)
ends_handle c blob rest (Ok poll.Pending) left store (step.Done w) did = absurd did
ends_handle c blob rest (Err e) left store (step.Done w) did = absurd did
ends_handle c blob rest (Ok (poll.Ready u)) left store (step.Waiting p) did = absurd did
ends_handle c blob rest (Ok poll.Pending) left store (step.Waiting p) did = did.0.0
ends_handle c blob rest (Err e) left store (step.Waiting p) did = absurd did
ends_handle c blob rest r left store (step.Failed f) did = tt

behind_handle : {S B : Type 0} (c : Ghosts S B) (blob : B) (rest : Rest) (task : ℕ) (a : Progress) (y : List Noted) (mid : Writer S) (store : S) (s : Stepped (B × Held) ((B × Held) × Rest)) (x : List Noted)
    → RunsBehind c blob rest task a y mid store s x → Handed blob (with_handle s)
behind_handle c blob rest task (Ok (poll.Ready u)) y mid store s x did = ends_handle c blob work.Nothing did.2 did.3 store s did.5
behind_handle c blob rest task (Ok poll.Pending) y mid store s x did = ends_handle c blob rest (Ok poll.Pending) mid store s did.1
behind_handle c blob rest task (Err e) y mid store s x did = ends_handle c blob rest (Err e) mid store s did.1

for_handle : {S B : Type 0} (c : Ghosts S B) (blob : B) (task : ℕ) (has : Bool) (old : Writer S) (store : S) (s : Stepped (B × Held) ((B × Held) × Rest)) (x : List Noted)
    → StartsFor c blob task has old store s x → Handed blob (with_handle s)
for_handle c blob task true old store s x did = behind_handle c blob work.Start task did.0 did.2 did.1 store s x did.4
for_handle c blob task false old store s x did = ends_handle c blob work.Nothing did.0 did.1 store s did.3

starts_handed : {S B : Type 0} (c : Ghosts S B) (blob : B) (task : ℕ) (old : Writer S) (store : S) (b : Begun (B × Held) ((B × Held) × Rest)) (x : List Noted) → Starts c blob task old store b x → Handed blob b
starts_handed c blob task old store b x did = rw did.2 (for_handle c blob task (has_bytes old.held.tip.bytes) old store did.0 x did.1)

unseen_handle : {B W P : Type 0} (blob : B) (f : W → B × Held) (g : P → (B × Held) × Rest) (r : Begun W P) → Handed blob (seen_start f g r) → GivesHandle blob f (λ p. (g p).0.0) r
unseen_handle blob f g (begun.Done w h) is = is
unseen_handle blob f g (begun.Waiting p) is = is
unseen_handle blob f g (begun.Failed e) is = is

pub starts_handle : {S B W P : Type 0} (c : Ghosts S B) (blob : B) (task : ℕ) (old : Writer S) (store : S) (f : W → B × Held) (g : P → (B × Held) × Rest) (r : Begun W P) (x : List Noted) → Starts c blob task old store (seen_start f g r) x → GivesHandle blob f (λ p. (g p).0.0) r
starts_handle c blob task old store f g r x did = unseen_handle blob f g r (starts_handed c blob task old store (seen_start f g r) x did)

-- what a chunk takes of an environment is there, where there is room for two calls for each
pub spent_chunk : (at : ℕ) (chunks : List (List ℕ)) (chunk : List ℕ) (rest : Pieces) (most start before after total : ℕ) → slice_get chunks 0 ≡ Some chunk → rest ≡ passed at chunks → start + length chunks * (2 * most) ≤ before + total → before ≤ after + 2 * most
    → start + length rest.chunks * (2 * most) ≤ after + total
spent_chunk at [] chunk rest most start before after total found is room spent = absurd (cc)
spent_chunk at (c ∷ cs) chunk rest most start before after total found is room spent =
    let one : length (c ∷ cs) * (2 * most) ≡ length cs * (2 * most) + 2 * most = suc-mul (length cs) (2 * most) in
    rw is (omega (arith, one, room, spent))
