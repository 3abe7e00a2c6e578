-- A writer whose changes are kept.
use Rattle.rt_buffer.proofs.Prelude.{◌≡◌, inl, inr, ℕ, List, Option, Some, None, Result, Ok, Err, refl, sym, ◌∙◌, subst, Bool, true, false, ⊤, Notes, Error, Poll, Noted, Chunked, IsGivenUp, IsPoll, IsStart, IsSync, IsWrite, Ghosts, Held, SyncState, Clean, Dirty, Started, Rest, Stepped, Begun, Asked, HoldsBytes, HoldsSync, IfBegun, IfStepped, IsPast, Keeping, Keeps, KnowsState, is_open, Pieces, chunks_written, Begins, BeginsFor, HoldsStarted, Starts, StartsFor, with_handle, seen_start, Progress, Waits, Writer, writer, WaitsFor, Settled, Settles, SettlesBehind, SyncsBlob, WritesDurably, WritesOut, Changed, Then, Behind, SavesTaken, SavesChanges, SavesBytes, AreBuffers, Ends, Runs, RunsBehind, is_started, seen_step, with_state, with_tip, is_done, durably, plain, bytes_to_write, drained, laid_over, LiesOver, has_bytes, IsCopy, PollsTicket, resized, written, Done, Now, Gated, Ticket, Ready, Numbered, IsDurable, Promises}
use Rattle.rt_base.specs.declared.poll.Poll.TheVariants as poll
use Rattle.rt_buffer.specs.declared.write_op.Rest.TheVariants as work
use Rattle.rt_buffer.specs.declared.write_op.Stepped.TheVariants as step
use Rattle.rt_buffer.specs.declared.sync_handle.Begun.TheVariants as begun
use Rattle.rt_buffer.proofs.Changes.{Drained, Put, chunks_put, drains_taken, resizes_put}
use Rattle.rt_buffer.proofs.Overlaid.{flat_drained}
use Rattle.rt_buffer.proofs.Shown.{shows_bytes, shows_empty, shows_none}

-- a ticket that is ready with Ok is done
ready_ok : {S B : Type 0} (c : Ghosts S B) (mid : S) (b : B) (a : Result Unit Error) (held : Ticket) (u : Unit) → IsCopy a (poll.Ready (Ok u)) → held ≡ Ready a → Promises c.bytes c.left c.promised mid held b → IsDurable c.bytes c.left mid b
ready_ok c mid b (Ok v) held u copy is hopes = rw is at hopes
ready_ok c mid b (Err e) held u (inl other) is hopes = absurd (cc)
ready_ok c mid b (Err e) held u (inr other) is hopes = absurd (cc)

pub polled_ok : {S B : Type 0} (c : Ghosts S B) (mid : S) (b : B) (t held : Ticket) (u : Unit) → PollsTicket t (poll.Ready (Ok u)) held → Promises c.bytes c.left c.promised mid held b → IsDurable c.bytes c.left mid b
polled_ok c mid b (Ready a) held u is hopes = ready_ok c mid b a held u is.0 is.1 hopes
polled_ok c mid b (Numbered n) held u is hopes = ready_ok c mid b is.0 held u is.2 is.1 hopes

-- a call that is done left these bytes, and one that waits holds the sync of them
abbrev Came : {S B : Type 0} → Ghosts S B → B → List ℕ → Rest → Progress → Writer S → Type 0
Came c b content rest (Ok (poll.Ready u)) new = Keeps c.bytes c.left c.promised content rest new.held new.store b
Came c b content rest (Ok poll.Pending) new = HoldsBytes c.bytes c.left c.promised content new.held new.store b
Came c b content rest (Err e) new = ⊤

abbrev Saved : {S B : Type 0} → Ghosts S B → B → List ℕ → Progress → Writer S → Type 0
Saved c b content r new = Came c b content work.Sync r new

asked_saved : {S B : Type 0} (c : Ghosts S B) (b : B) (content : List ℕ) (r : Progress) (new : Writer S)
    → (c.bytes new.store b ≡ content) × Asked c.bytes c.left c.promised r new.held new.store b → Saved c b content r new
asked_saved c b content (Ok (poll.Ready u)) new h = ((h.0, h.1.0), h.1.1)
asked_saved c b content (Ok poll.Pending) new h = h
asked_saved c b content (Err e) new h = tt

-- a started sync was asked for
settled_asked : {S B : Type 0} (c : Ghosts S B) (b : B) (task : ℕ) (old mid : S) (t held : Ticket) (h : Held) (p : Poll (Result Unit Error)) (r : Progress) (new : Writer S) (x : List Noted)
    → Promises c.bytes c.left c.promised old t b → IsPast h.tip (c.bytes old b) → IsPoll c old t task p mid held x → PollsTicket t p held → Settled p mid held h r new
    → (c.bytes new.store b ≡ c.bytes old b) × Asked c.bytes c.left c.promised r new.held new.store b
settled_asked c b task old mid t held h (poll.Ready (Ok u)) r new x hopes none polls keeps_ticket did =
    let kept = polls.1 b hopes in
    let saved = polled_ok c mid b t held u keeps_ticket kept.1 in
    rw (did.0, did.1) (kept.0, ((rw kept.0 none, refl, saved), saved))
settled_asked c b task old mid t held h (poll.Ready (Err e)) r new x hopes none polls keeps_ticket did =
    rw (did.0, did.1) ((polls.1 b hopes).0, tt)
settled_asked c b task old mid t held h poll.Pending r new x hopes none polls keeps_ticket did =
    let kept = polls.1 b hopes in
    rw (did.0, did.1) (kept.0, (rw kept.0 none, refl, kept.1))

settles_saved : {S B : Type 0} (c : Ghosts S B) (b : B) (task : ℕ) (d : Done) (old : Writer S) (r : Progress) (new : Writer S) (x : List Noted)
    → IsPast old.held.tip (c.bytes old.store b) → (d ≡ Now → IsDurable c.bytes c.left old.store b) → ((t : Ticket) → d ≡ Gated t → Promises c.bytes c.left c.promised old.store t b) → Settles c task d old r new x → Saved c b (c.bytes old.store b) r new
settles_saved c b task Now old r new x none now hopes did = rw (did.0, did.1) ((refl, (none, refl, now refl)), now refl)
settles_saved c b task (Gated t) old r new x none now hopes did =
    asked_saved c b (c.bytes old.store b) r new (settled_asked c b task old.store did.1 t did.2 (with_state old.held (Started t)) did.0 r new x (hopes t refl) none did.3 did.4 did.6)

keeps_behind : {S B : Type 0} (c : Ghosts S B) (b : B) (task : ℕ) (content : List ℕ) (d : Result Done Error) (y : List Noted) (mid : Writer S) (r : Progress) (new : Writer S) (x : List Noted)
    → IsPast mid.held.tip content
    → ((e : Done) → d ≡ Ok e → (c.bytes mid.store b ≡ content) × (e ≡ Now → IsDurable c.bytes c.left mid.store b) × ((t : Ticket) → e ≡ Gated t → Promises c.bytes c.left c.promised mid.store t b))
    → SettlesBehind c task d y mid r new x → Saved c b content r new
keeps_behind c b task content (Ok d) y mid r new x none facts did =
    let f = facts d refl in
    subst (λ (l : List ℕ). Saved c b l r new) f.0 (settles_saved c b task d mid r new did.0 (rw f.0 none) f.1 f.2 did.2)
keeps_behind c b task content (Err e) y mid r new x none facts did = rw did.0 tt

syncs_saved : {S B : Type 0} (c : Ghosts S B) (b : B) (task : ℕ) (old : Writer S) (r : Progress) (new : Writer S) (x : List Noted) → IsPast old.held.tip (c.bytes old.store b) → SyncsBlob c b task old r new x → Saved c b (c.bytes old.store b) r new
syncs_saved c b task old r new x none did =
    keeps_behind c b task (c.bytes old.store b) did.0 did.2 (writer did.1 old.held) r new x none
    (λ d is. let syncs : IsSync c old.store b (Ok d) did.1 did.2 = rw is at did.3 in
    let saved = syncs.1.1 in
    (syncs.1.0, (λ now. rw now at saved), (λ t gated. rw gated at saved)))
    did.5

writes_saved : {S B : Type 0} (c : Ghosts S B) (b : B) (task : ℕ) (at : ℕ) (w : Chunked) (old : Writer S) (r : Progress) (new : Writer S) (x : List Noted) → IsPast old.held.tip (written at w.bytes (c.bytes old.store b)) → IsDurable c.bytes c.left old.store b → WritesDurably c b task at w old r new x → Saved c b (written at w.bytes (c.bytes old.store b)) r new
writes_saved c b task at w old r new x none durable did =
    keeps_behind c b task (written at w.bytes (c.bytes old.store b)) did.0 did.2 (writer did.1 old.held) r new x none
    (λ d is. let writes : IsWrite c old.store b at w durably (Ok d) did.1 did.2 = rw is at did.3 in
    let saved = writes.1.1 refl durable in
    (writes.1.0, (λ now. rw now at saved), (λ t gated. rw gated at saved)))
    did.5

-- a write, and a sync where it is done
changed_then : {S B : Type 0} (c : Ghosts S B) (b : B) (task : ℕ) (content : List ℕ) (d : Result Done Error) (mid : S) (h : Held) (a : Progress) (next : Writer S) (y : List Noted) (r : Progress) (new : Writer S) (x : List Noted)
    → IsPast h.tip content → ((e : Done) → d ≡ Ok e → c.bytes mid b ≡ content) → ((t : Ticket) (after : S) → d ≡ Ok (Gated t) → IsGivenUp c mid t after → c.bytes after b ≡ c.bytes mid b) → Changed c d mid h a next → Behind (SyncsBlob c b task) a y next r new x → Saved c b content r new
changed_then c b task content (Ok Now) mid h a next y r new x none facts given_up did behind =
    let on : Behind (SyncsBlob c b task) is_done y (writer mid (with_state h Dirty)) r new x = rw (did.0, did.1) at behind in
    subst (λ (l : List ℕ). Saved c b l r new) (facts Now refl) (syncs_saved c b task (writer mid (with_state h Dirty)) r new on.0 (rw (facts Now refl) none) on.2)
changed_then c b task content (Ok (Gated t)) mid h a next y r new x none facts given_up did behind =
    let on : Behind (SyncsBlob c b task) is_done y next r new x = rw did.0 at behind in
    let kept : c.bytes next.store b ≡ content = given_up t next.store refl did.1 ∙ facts (Gated t) refl in
    subst (λ (l : List ℕ). Saved c b l r new) kept (syncs_saved c b task next r new on.0 (rw (did.2, kept) none) on.2)
changed_then c b task content (Err e) mid h a next y r new x none facts given_up did behind =
    let on : Behind (SyncsBlob c b task) (Err e) y next r new x = rw did.0 at behind in
    rw on.0 tt

then_saved : {S B : Type 0} (c : Ghosts S B) (b : B) (task : ℕ) (at : ℕ) (w : Chunked) (old : Writer S) (r : Progress) (new : Writer S) (x : List Noted) → IsPast old.held.tip (written at w.bytes (c.bytes old.store b)) → Then (WritesOut c b at w) (SyncsBlob c b task) old r new x → Saved c b (written at w.bytes (c.bytes old.store b)) r new
then_saved c b task at w old r new x none did =
    let out = did.3 in
    changed_then c b task (written at w.bytes (c.bytes old.store b)) out.0 out.1 old.held did.0 did.1 did.2 r new x none
    (λ d is. let wrote : IsWrite c old.store b at w plain (Ok d) out.1 did.2 = rw is at out.2 in wrote.1.0)
    (λ t after is gives. (out.2.2 t after refl is gives.0).0) out.4 did.4

saves_changes : {S B : Type 0} (c : Ghosts S B) (b : B) (task : ℕ) (state : SyncState) (old : Writer S) (r : Progress) (new : Writer S) (x : List Noted)
    → old.held.state ≡ state → IsPast old.held.tip (c.bytes old.store b) → KnowsState c.bytes c.left c.promised state old.store b → is_started state ≡ false → SavesChanges c b task state old r new x → Saved c b (c.bytes old.store b) r new
saves_changes c b task Clean old r new x is none knows settled did = rw (did.0, did.1, is) ((refl, (none, refl, knows)), knows)
saves_changes c b task Dirty old r new x is none knows settled did = syncs_saved c b task old r new x none did
saves_changes c b task (Started t) old r new x is none knows settled did = absurd (cc)

saves_bytes : {S B : Type 0} (c : Ghosts S B) (b : B) (task : ℕ) (at : ℕ) (w : Chunked) (state : SyncState) (old : Writer S) (r : Progress) (new : Writer S) (x : List Noted)
    → IsPast old.held.tip (written at w.bytes (c.bytes old.store b)) → KnowsState c.bytes c.left c.promised state old.store b → is_started state ≡ false → SavesBytes c b task at w state old r new x → Saved c b (written at w.bytes (c.bytes old.store b)) r new
saves_bytes c b task at w Clean old r new x none knows settled did = writes_saved c b task at w old r new x none knows did
saves_bytes c b task at w Dirty old r new x none knows settled did = then_saved c b task at w old r new x none did
saves_bytes c b task at w (Started t) old r new x none knows settled did = absurd (cc)

saves_taken : {S B : Type 0} (c : Ghosts S B) (b : B) (task : ℕ) (t : Result (Option (Chunked × ℕ)) Error) (old : Writer S) (r : Progress) (new : Writer S) (x : List Noted)
    → LiesOver old.held.tip (c.bytes old.store b) → KnowsState c.bytes c.left c.promised old.held.state old.store b → is_started old.held.state ≡ false → AreBuffers (bytes_to_write old.held.tip) t → SavesTaken c b task t old r new x
    → Saved c b (laid_over old.held.tip (c.bytes old.store b)) r new
saves_taken c b task (Err e) old r new x lies knows settled are did = rw did.0 tt
saves_taken c b task (Ok None) old r new x lies knows settled are did =
    let same : c.bytes old.store b ≡ laid_over old.held.tip (c.bytes old.store b) = shows_none old.held.tip.offset old.held.tip.capacity old.held.tip.bytes (c.bytes old.store b) lies are in
    let past : LiesOver (drained old.held.tip) (c.bytes old.store b) = subst (λ (l : List ℕ). LiesOver (drained old.held.tip) l) (sym same) (flat_drained old.held.tip (c.bytes old.store b) lies).0 in
    subst (λ (l : List ℕ). Saved c b l r new) same
    (saves_changes c b task old.held.state (writer old.store (with_tip old.held (drained old.held.tip))) r new x refl (refl, past) knows settled did)
saves_taken c b task (Ok (Some w)) old r new x lies knows settled are did =
    let same : written w.1 w.0.bytes (c.bytes old.store b) ≡ laid_over old.held.tip (c.bytes old.store b) = shows_bytes old.held.tip (c.bytes old.store b) w.0.bytes w.1 are in
    let past : LiesOver (drained old.held.tip) (written w.1 w.0.bytes (c.bytes old.store b)) = subst (λ (l : List ℕ). LiesOver (drained old.held.tip) l) (sym same) (flat_drained old.held.tip (c.bytes old.store b) lies).0 in
    subst (λ (l : List ℕ). Saved c b l r new) same
    (saves_bytes c b task w.1 w.0 old.held.state (writer old.store (with_tip old.held (drained old.held.tip))) r new x (refl, past) knows settled did)

-- a sync is started, or shared
starts_came : {S B : Type 0} (c : Ghosts S B) (b : B) (content : List ℕ) (old : Writer S) (a : Result Ticket Error) (mid : S) (r : Progress) (new : Writer S) (x : List Noted)
    → c.bytes old.store b ≡ content → IsPast old.held.tip content → IsStart c old.store b a mid x → HoldsStarted a mid old.held r new → Came c b content work.Start r new
starts_came c b content old (Ok t) mid r new x shows none starts did =
    let kept : c.bytes mid b ≡ content = starts.1.0 ∙ shows in
    rw (did.0, did.1) (kept, (rw kept none, refl, starts.1.1))
starts_came c b content old (Err e) mid r new x shows none starts did = rw did.0 tt

begins_came : {S B : Type 0} (c : Ghosts S B) (b : B) (content : List ℕ) (state : SyncState) (old : Writer S) (r : Progress) (new : Writer S) (x : List Noted)
    → c.bytes old.store b ≡ content → old.held.state ≡ state → IsPast old.held.tip content → KnowsState c.bytes c.left c.promised state old.store b → BeginsFor c b state old r new x → Came c b content work.Start r new
begins_came c b content Clean old r new x shows is none knows did = rw (did.0, did.1, is) (shows, (rw shows none, refl, knows))
begins_came c b content (Started t) old r new x shows is none knows did = rw (did.0, did.1, is) (shows, (rw shows none, refl, knows))
begins_came c b content Dirty old r new x shows is none knows did = starts_came c b content old did.0 did.1 r new x shows none did.2 did.4

start_came : {S B : Type 0} (c : Ghosts S B) (b : B) (content : List ℕ) (a : Progress) (y : List Noted) (mid : Writer S) (r : Progress) (new : Writer S) (x : List Noted)
    → Drained c b content a mid → Behind (Begins c b) a y mid r new x → Came c b content work.Start r new
start_came c b content (Ok (poll.Ready u)) y mid r new x d did =
    let same : c.bytes mid.store b ≡ content = shows_empty mid.held.tip.offset mid.held.tip.capacity mid.held.tip.bytes (c.bytes mid.store b) d.0.0 d.1 ∙ d.0.1 in
    let past : LiesOver mid.held.tip content = subst (λ (l : List ℕ). LiesOver mid.held.tip l) same d.0.0 in
    begins_came c b content mid.held.state mid r new did.0 same refl (d.1, past) d.0.2 did.2
start_came c b content (Ok poll.Pending) y mid r new x d did = absurd d
start_came c b content (Err e) y mid r new x d did = rw did.0 tt

-- the wait for a started sync keeps what the tip and the blob show
tip_settles : {S B : Type 0} (c : Ghosts S B) (b : B) (task : ℕ) (content : List ℕ) (old : Writer S) (mid : S) (t held : Ticket) (p : Poll (Result Unit Error)) (r : Progress) (new : Writer S) (x : List Noted)
    → LiesOver old.held.tip (c.bytes old.store b) → laid_over old.held.tip (c.bytes old.store b) ≡ content → Promises c.bytes c.left c.promised old.store t b → IsPoll c old.store t task p mid held x → PollsTicket t p held → Settled p mid held old.held r new
    → (r ≡ is_done → Keeping c.bytes c.left c.promised content work.Sync new.held new.store b × (is_started new.held.state ≡ false)) × (r ≡ Ok poll.Pending → Keeping c.bytes c.left c.promised content work.Sync new.held new.store b)
tip_settles c b task content old mid t held (poll.Ready (Ok u)) r new x lies shows hopes polls keeps_ticket did =
    let kept = polls.1 b hopes in
    let saved = polled_ok c mid b t held u keeps_ticket kept.1 in
    ((λ done. rw did.1 ((rw kept.0 lies, rw kept.0 shows, saved), refl)), (λ waits. absurd (cc)))
tip_settles c b task content old mid t held (poll.Ready (Err e)) r new x lies shows hopes polls keeps_ticket did = ((λ done. absurd (cc)), (λ waits. absurd (cc)))
tip_settles c b task content old mid t held poll.Pending r new x lies shows hopes polls keeps_ticket did =
    let kept = polls.1 b hopes in
    ((λ done. absurd (cc)), (λ waits. rw did.1 (rw kept.0 lies, rw kept.0 shows, kept.1)))

tip_waits : {S B : Type 0} (c : Ghosts S B) (b : B) (task : ℕ) (content : List ℕ) (state : SyncState) (old : Writer S) (r : Progress) (new : Writer S) (x : List Noted)
    → old.held.state ≡ state → LiesOver old.held.tip (c.bytes old.store b) → laid_over old.held.tip (c.bytes old.store b) ≡ content → KnowsState c.bytes c.left c.promised state old.store b → WaitsFor c task state old r new x
    → (r ≡ is_done → Keeping c.bytes c.left c.promised content work.Sync new.held new.store b × (is_started new.held.state ≡ false)) × (r ≡ Ok poll.Pending → Keeping c.bytes c.left c.promised content work.Sync new.held new.store b)
tip_waits c b task content Clean old r new x is lies shows knows did = ((λ done. rw (did.1, is) ((lies, shows, knows), refl)), (λ waits. absurd (cc)))
tip_waits c b task content Dirty old r new x is lies shows knows did = ((λ done. rw (did.1, is) ((lies, shows, tt), refl)), (λ waits. absurd (cc)))
tip_waits c b task content (Started t) old r new x is lies shows knows did = tip_settles c b task content old did.1 t did.2 did.0 r new x lies shows knows did.3 did.4 did.6

-- what the call answers
abbrev Comes : {S B : Type 0} → Ghosts S B → B → List ℕ → Rest → S → Stepped (B × Held) ((B × Held) × Rest) → Type 0
Comes c b content rest store s =
    IfStepped s (λ w. Keeps c.bytes c.left c.promised content rest w.1 store b) (λ p. Keeping c.bytes c.left c.promised content p.1 p.0.1 store b)

ends_came : {S B : Type 0} (c : Ghosts S B) (b : B) (content : List ℕ) (rest : Rest) (r : Progress) (last : Writer S) (store : S) (s : Stepped (B × Held) ((B × Held) × Rest))
    → Came c b content rest r last → Ends c b work.Nothing r last store s → Comes c b content rest store s
ends_came c b content rest (Ok (poll.Ready u)) last store (step.Done w) came ends = rw (ends.1, ends.2) came
ends_came c b content rest (Ok poll.Pending) last store (step.Waiting p) came ends = rw (ends.1, ends.0.1, ends.0.2) came
ends_came c b content rest (Ok (poll.Ready u)) last store (step.Waiting p) came ends = absurd ends
ends_came c b content rest (Ok poll.Pending) last store (step.Done w) came ends = absurd ends
ends_came c b content rest (Err e) last store (step.Done w) came ends = absurd ends
ends_came c b content rest (Err e) last store (step.Waiting p) came ends = absurd ends
ends_came c b content rest r last store (step.Failed e) came ends = tt

ends_waiting : {S B : Type 0} (c : Ghosts S B) (b : B) (content : List ℕ) (rest : Rest) (last : Writer S) (store : S) (s : Stepped (B × Held) ((B × Held) × Rest))
    → Keeping c.bytes c.left c.promised content rest last.held last.store b → Ends c b rest (Ok poll.Pending) last store s → Comes c b content rest store s
ends_waiting c b content rest last store (step.Done w) keeping ends = absurd ends
ends_waiting c b content rest last store (step.Waiting p) keeping ends = rw (ends.1, ends.0.1, ends.0.2) keeping
ends_waiting c b content rest last store (step.Failed e) keeping ends = tt

ends_failing : {S B : Type 0} (c : Ghosts S B) (b : B) (content : List ℕ) (rest : Rest) (e : Error) (last : Writer S) (store : S) (s : Stepped (B × Held) ((B × Held) × Rest))
    → Ends c b rest (Err e) last store s → Comes c b content rest store s
ends_failing c b content rest e last store (step.Done w) ends = absurd ends
ends_failing c b content rest e last store (step.Waiting p) ends = absurd ends
ends_failing c b content rest e last store (step.Failed f) ends = tt

sync_behind : {S B : Type 0} (c : Ghosts S B) (b : B) (task : ℕ) (content : List ℕ) (a : Progress) (y : List Noted) (mid : Writer S) (store : S) (s : Stepped (B × Held) ((B × Held) × Rest)) (x : List Noted)
    → (a ≡ is_done → Keeping c.bytes c.left c.promised content work.Sync mid.held mid.store b × (is_started mid.held.state ≡ false)) × (a ≡ Ok poll.Pending → Keeping c.bytes c.left c.promised content work.Sync mid.held mid.store b)
    → RunsBehind c b work.Sync task a y mid store s x → Comes c b content work.Sync store s
sync_behind c b task content (Ok (poll.Ready u)) y mid store s x facts did =
    let f = facts.0 refl in
    let saves = did.4 in
    ends_came c b content work.Sync did.2 did.3 store s
    (subst (λ (l : List ℕ). Saved c b l did.2 did.3) f.0.1 (saves_taken c b task saves.0 mid did.2 did.3 did.0 f.0.0 f.0.2 f.1 saves.1 saves.2)) did.5
sync_behind c b task content (Ok poll.Pending) y mid store s x facts did = ends_waiting c b content work.Sync mid store s (facts.1 refl) did.1
sync_behind c b task content (Err e) y mid store s x facts did = ends_failing c b content work.Sync e mid store s did.1

start_behind : {S B : Type 0} (c : Ghosts S B) (b : B) (task : ℕ) (content : List ℕ) (a : Progress) (y : List Noted) (mid : Writer S) (store : S) (s : Stepped (B × Held) ((B × Held) × Rest)) (x : List Noted)
    → (a ≡ is_done → Keeping c.bytes c.left c.promised content work.Sync mid.held mid.store b × (is_started mid.held.state ≡ false)) × (a ≡ Ok poll.Pending → Keeping c.bytes c.left c.promised content work.Sync mid.held mid.store b)
    → RunsBehind c b work.Start task a y mid store s x → Comes c b content work.Start store s
start_behind c b task content (Ok (poll.Ready u)) y mid store s x facts did =
    let f = facts.0 refl in
    let both = did.4 in
    let drains = both.3 in
    ends_came c b content work.Start did.2 did.3 store s
    (start_came c b content both.0 both.2 both.1 did.2 did.3 did.0
    (drains_taken c b content mid drains.0 both.0 both.1 both.2 f.0 f.1 drains.1 drains.2) both.4) did.5
start_behind c b task content (Ok poll.Pending) y mid store s x facts did = ends_waiting c b content work.Start mid store s (facts.1 refl) did.1
start_behind c b task content (Err e) y mid store s x facts did = ends_failing c b content work.Start e mid store s did.1

put_came : {S B : Type 0} (c : Ghosts S B) (b : B) (content : List ℕ) (p : Pieces) (r : Progress) (new : Writer S)
    → Put c b content r new → Came c b content (work.Write p) r new
put_came c b content p (Ok (poll.Ready u)) new put = put.0
put_came c b content p (Ok poll.Pending) new put = absurd put
put_came c b content p (Err e) new put = tt

resized_came : {S B : Type 0} (c : Ghosts S B) (b : B) (content : List ℕ) (n : ℕ) (r : Progress) (new : Writer S)
    → Put c b content r new → Came c b content (work.Resize n) r new
resized_came c b content n (Ok (poll.Ready u)) new put = put.0
resized_came c b content n (Ok poll.Pending) new put = absurd put
resized_came c b content n (Err e) new put = tt

write_behind : {S B : Type 0} (c : Ghosts S B) (b : B) (task : ℕ) (content shown : List ℕ) (p : Pieces) (a : Progress) (y : List Noted) (mid : Writer S) (store : S) (s : Stepped (B × Held) ((B × Held) × Rest)) (x : List Noted)
    → chunks_written p.at p.chunks shown ≡ content
    → (a ≡ is_done → Keeping c.bytes c.left c.promised shown work.Sync mid.held mid.store b × (is_started mid.held.state ≡ false)) × (a ≡ Ok poll.Pending → Keeping c.bytes c.left c.promised shown work.Sync mid.held mid.store b)
    → RunsBehind c b (work.Write p) task a y mid store s x → Comes c b content (work.Write p) store s
write_behind c b task content shown p (Ok (poll.Ready u)) y mid store s x is facts did =
    let f = facts.0 refl in
    ends_came c b content (work.Write p) did.2 did.3 store s
    (put_came c b content p did.2 did.3 (subst (λ (l : List ℕ). Put c b l did.2 did.3) is (chunks_put c b shown p.at p.chunks mid did.2 did.3 did.0 f.0 f.1 did.4))) did.5
write_behind c b task content shown p (Ok poll.Pending) y mid store s x is facts did = ends_waiting c b content (work.Write p) mid store s (shown, is, facts.1 refl) did.1
write_behind c b task content shown p (Err e) y mid store s x is facts did = ends_failing c b content (work.Write p) e mid store s did.1

resize_behind : {S B : Type 0} (c : Ghosts S B) (b : B) (task : ℕ) (content shown : List ℕ) (n : ℕ) (a : Progress) (y : List Noted) (mid : Writer S) (store : S) (s : Stepped (B × Held) ((B × Held) × Rest)) (x : List Noted)
    → resized n shown ≡ content
    → (a ≡ is_done → Keeping c.bytes c.left c.promised shown work.Sync mid.held mid.store b × (is_started mid.held.state ≡ false)) × (a ≡ Ok poll.Pending → Keeping c.bytes c.left c.promised shown work.Sync mid.held mid.store b)
    → RunsBehind c b (work.Resize n) task a y mid store s x → Comes c b content (work.Resize n) store s
resize_behind c b task content shown n (Ok (poll.Ready u)) y mid store s x is facts did =
    let f = facts.0 refl in
    ends_came c b content (work.Resize n) did.2 did.3 store s
    (resized_came c b content n did.2 did.3 (subst (λ (l : List ℕ). Put c b l did.2 did.3) is (resizes_put c b shown n mid did.2 did.3 did.0 f.0 did.4))) did.5
resize_behind c b task content shown n (Ok poll.Pending) y mid store s x is facts did = ends_waiting c b content (work.Resize n) mid store s (shown, is, facts.1 refl) did.1
resize_behind c b task content shown n (Err e) y mid store s x is facts did = ends_failing c b content (work.Resize n) e mid store s did.1

wait_behind : {S B : Type 0} (c : Ghosts S B) (b : B) (task : ℕ) (content : List ℕ) (a : Progress) (y : List Noted) (mid : Writer S) (store : S) (s : Stepped (B × Held) ((B × Held) × Rest)) (x : List Noted)
    → (c.bytes mid.store b ≡ content) × Asked c.bytes c.left c.promised a mid.held mid.store b → RunsBehind c b work.Nothing task a y mid store s x → Comes c b content work.Nothing store s
wait_behind c b task content (Ok (poll.Ready u)) y mid store s x asked did =
    let rests = did.4 in
    ends_came c b content work.Nothing did.2 did.3 store s (rw (rests.0, rests.1) ((asked.0, asked.1.0), asked.1.1)) did.5
wait_behind c b task content (Ok poll.Pending) y mid store s x asked did = ends_waiting c b content work.Nothing mid store s asked did.1
wait_behind c b task content (Err e) y mid store s x asked did = ends_failing c b content work.Nothing e mid store s did.1

waits_asked : {S B : Type 0} (c : Ghosts S B) (b : B) (task : ℕ) (state : SyncState) (old : Writer S) (r : Progress) (new : Writer S) (x : List Noted)
    → old.held.state ≡ state → IsPast old.held.tip (c.bytes old.store b) → is_open state ≡ false → KnowsState c.bytes c.left c.promised state old.store b → WaitsFor c task state old r new x
    → (c.bytes new.store b ≡ c.bytes old.store b) × Asked c.bytes c.left c.promised r new.held new.store b
waits_asked c b task Clean old r new x is none whole knows did = rw (did.0, did.1, is) (refl, ((none, refl, knows), knows))
waits_asked c b task Dirty old r new x is none whole knows did = absurd (cc)
waits_asked c b task (Started t) old r new x is none whole knows did = settled_asked c b task old.store did.1 t did.2 old.held did.0 r new x knows none did.3 did.4 did.6

-- a call that keeps bytes, and goes on
pub call_keeps : {S B : Type 0} (c : Ghosts S B) (b : B) (task : ℕ) (content : List ℕ) (rest : Rest) (old : Writer S) (store : S) (s : Stepped (B × Held) ((B × Held) × Rest)) (x : List Noted)
    → Keeping c.bytes c.left c.promised content rest old.held old.store b → Runs c b rest task old store s x → Comes c b content rest store s
call_keeps c b task content work.Sync old store s x keeping did =
    sync_behind c b task content did.0 did.2 did.1 store s x (tip_waits c b task content old.held.state old did.0 did.1 did.2 refl keeping.0 keeping.1 keeping.2 did.3) did.4
call_keeps c b task content work.Start old store s x keeping did =
    start_behind c b task content did.0 did.2 did.1 store s x (tip_waits c b task content old.held.state old did.0 did.1 did.2 refl keeping.0 keeping.1 keeping.2 did.3) did.4
call_keeps c b task content work.Nothing old store s x keeping did =
    let asked = waits_asked c b task old.held.state old did.0 did.1 did.2 refl keeping.1.0 keeping.1.1 keeping.1.2 did.3 in
    wait_behind c b task content did.0 did.2 did.1 store s x (asked.0 ∙ keeping.0, asked.1) did.4
call_keeps c b task content (work.Resize n) old store s x keeping did =
    let shows = keeping.2 in
    resize_behind c b task content keeping.0 n did.0 did.2 did.1 store s x keeping.1 (tip_waits c b task keeping.0 old.held.state old did.0 did.1 did.2 refl shows.0 shows.1 shows.2 did.3) did.4
call_keeps c b task content (work.Write p) old store s x keeping did =
    let shows = keeping.2 in
    write_behind c b task content keeping.0 p did.0 did.2 did.1 store s x keeping.1 (tip_waits c b task keeping.0 old.held.state old did.0 did.1 did.2 refl shows.0 shows.1 shows.2 did.3) did.4

pub with_handle_as : {B : Type 0} (s : Stepped (B × Held) ((B × Held) × Rest)) (done : B × Held → Type 0) (waits : (B × Held) × Rest → Type 0) → IfStepped s done waits → IfBegun (with_handle s) done waits
with_handle_as (step.Done w) done waits h = h
with_handle_as (step.Waiting p) done waits h = h
with_handle_as (step.Failed e) done waits h = h

starts_for : {S B : Type 0} (c : Ghosts S B) (b : B) (task : ℕ) (has : Bool) (old : Writer S) (store : S) (s : Stepped (B × Held) ((B × Held) × Rest)) (x : List Noted)
    → has_bytes old.held.tip.bytes ≡ has → LiesOver old.held.tip (c.bytes old.store b) → KnowsState c.bytes c.left c.promised old.held.state old.store b → StartsFor c b task has old store s x
    → Comes c b (laid_over old.held.tip (c.bytes old.store b)) work.Start store s
starts_for c b task true old store s x is lies knows did = call_keeps c b task (laid_over old.held.tip (c.bytes old.store b)) work.Start old store s x (lies, refl, knows) did
starts_for c b task false old store s x is lies knows did =
    let same : c.bytes old.store b ≡ laid_over old.held.tip (c.bytes old.store b) = shows_empty old.held.tip.offset old.held.tip.capacity old.held.tip.bytes (c.bytes old.store b) lies is in
    let past : LiesOver old.held.tip (laid_over old.held.tip (c.bytes old.store b)) = subst (λ (l : List ℕ). LiesOver old.held.tip l) same lies in
    ends_came c b (laid_over old.held.tip (c.bytes old.store b)) work.Start did.0 did.1 store s
    (begins_came c b (laid_over old.held.tip (c.bytes old.store b)) old.held.state old did.0 did.1 x same refl (is, past) knows did.2) did.3

-- a sync that was started: the blob has the flat list, and the writer holds the sync of it
pub start_keeps : {S B : Type 0} (c : Ghosts S B) (b : B) (task : ℕ) (old : Writer S) (store : S) (g : Begun (B × Held) ((B × Held) × Rest)) (x : List Noted)
    → LiesOver old.held.tip (c.bytes old.store b) → KnowsState c.bytes c.left c.promised old.held.state old.store b → Starts c b task old store g x
    → IfBegun g (λ w. Keeps c.bytes c.left c.promised (laid_over old.held.tip (c.bytes old.store b)) work.Start w.1 store b) (λ p. Keeping c.bytes c.left c.promised (laid_over old.held.tip (c.bytes old.store b)) p.1 p.0.1 store b)
start_keeps c b task old store g x lies knows did =
    rw did.2 (with_handle_as did.0 _ _ (starts_for c b task (has_bytes old.held.tip.bytes) old store did.0 x refl lies knows did.1))

pub unseen : {W P H : Type 0} (f : W → H) (g : P → H × Rest) (r : Stepped W P) (done : H → Type 0) (waits : H × Rest → Type 0) → IfStepped (seen_step f g r) done waits → IfStepped r (λ w. done (f w)) (λ p. waits (g p))
unseen f g (step.Done w) done waits h = h
unseen f g (step.Waiting p) done waits h = h
unseen f g (step.Failed e) done waits h = h

pub unbegun : {W P H : Type 0} (f : W → H) (g : P → H × Rest) (r : Begun W P) (done : H → Type 0) (waits : H × Rest → Type 0) → IfBegun (seen_start f g r) done waits → IfBegun r (λ w. done (f w)) (λ p. waits (g p))
unbegun f g (begun.Done w n) done waits h = h
unbegun f g (begun.Waiting p) done waits h = h
unbegun f g (begun.Failed e) done waits h = h

pub handle_asked : {S B : Type 0} (c : Ghosts S B) (b : B) (task : ℕ) (old : Writer S) (a r : Progress) (new : Writer S) (before between : Option (List Noted))
    → a ≡ r → HoldsSync c.bytes c.left c.promised old.held old.store b → Notes before (λ x. Waits c task old a new x) between
    → (c.bytes new.store b ≡ c.bytes old.store b) × Asked c.bytes c.left c.promised r new.held new.store b
handle_asked c b task old a r new before between is holds waits =
    waits_asked c b task old.held.state old r new waits.0 refl holds.0 holds.1 holds.2 (rw is at waits.2)
