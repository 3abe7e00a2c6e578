-- A call of a writer leaves the other blobs of its store as they were.
use Rattle.rt_buffer.proofs.Prelude.{◌≡◌, ◌+◌, ℕ, Bool, true, false, List, [], ◌∷◌, length, Option, Some, None, Result, Ok, Err, refl, sym, ◌∙◌, subst, ⊤, Error, Poll, Noted, Chunked, IsStart, IsSync, IsWrite, Left, Held, SyncState, Clean, Dirty, Started, Begun, Rest, Stepped, IfBegun, IfStepped, KnowsState, Act, Behind, Begins, BeginsFor, Changed, Drains, DrainsTaken, Ends, Finishes, HoldsStarted, Lacks, MergesChunk, Progress, PutsAgain, PutsBeyond, PutsChunks, PutsFor, PutsPast, Raised, ResizesBlob, ResizesTaken, Rests, Runs, RunsBehind, SavesBytes, SavesChanges, SavesTaken, Settled, Settles, SettlesBehind, Starts, StartsFor, SyncsBlob, Then, Waits, WaitsFor, Writer, WritesBuffer, WritesChunk, WritesDurably, WritesOut, durably, is_done, is_started, plain, progress_of, with_state, with_tip, writer, drained, is_within, resized_tip, ClosesWriter, has_bytes, is_in_the_way, PollsTicket, Ghosts, Done, Now, Gated, Ticket, Ready, Numbered, IsDurable, IsOf, Promises, ◌⊎◌, inl, inr, IsGivenUp, is_numbered}
use Rattle.rt_base.specs.declared.poll.Poll.TheVariants as poll
use Rattle.rt_buffer.specs.declared.write_op.Rest.TheVariants as work
use Rattle.rt_buffer.specs.declared.write_op.Stepped.TheVariants as step
use Rattle.rt_buffer.specs.Calls.{IsClose}
use Rattle.rt_buffer.proofs.Durable.{polled_ok, with_handle_as}

module _ {S B : Type 0} (c : Ghosts S B) (b : B) where
  left_same : (s new : S) → new ≡ s → Left c b s new
  left_same s new is = rw is ((λ y near. (refl, refl, λ n l h. h)), ((λ a y near. near), (λ y are. are)))

  left_then : (s mid new : S) → Left c b s mid → Left c b mid new → Left c b s new
  left_then s mid new first second =
      let f = first.1 in
      let g = second.1 in (
        (λ y near.
            let one = first.0 y near in
            let two = second.0 y (f.0 b y near) in
            (two.0 ∙ one.0, two.1 ∙ one.1, λ n l h. two.2 n l (one.2 n l h))),
        ((λ a y near. g.0 a y (f.0 a y near)), (λ y are. g.1 y (f.1 y are))),
      )

  abbrev Knows : SyncState → S → Type 0
  Knows state s = KnowsState c.bytes c.left c.promised state s b

  -- a sync that is held is one of this blob, or its ticket is ready
  abbrev Holds : SyncState → S → Type 0
  Holds Clean s = ⊤
  Holds Dirty s = ⊤
  Holds (Started t) s = IsOf c.promised s t b

  abbrev Good : Progress → Writer S → Type 0
  Good (Ok p) w = Knows w.held.state w.store
  Good (Err e) w = Holds w.held.state w.store

  abbrev Went : Writer S → Progress → Writer S → Type 0
  Went old r new = Left c b old.store new.store × Good r new

  -- the same of a step behind which no sync is held
  abbrev Freely : Writer S → Progress → Writer S → Type 0
  Freely old r new = Went old r new × (is_started new.held.state ≡ false)

  abbrev Free : Writer S → Type 0
  Free w = Knows w.held.state w.store × (is_started w.held.state ≡ false)

  is_of : (t : Ticket) (s : S) → Promises c.bytes c.left c.promised s t b → IsOf c.promised s t b
  is_of (Ready r) s hopes = tt
  is_of (Numbered n) s hopes = (c.bytes s b, hopes)

  may_hold : (state : SyncState) (s : S) → Knows state s → Holds state s
  may_hold Clean s knows = tt
  may_hold Dirty s knows = tt
  may_hold (Started t) s knows = is_of t s knows

  free_holds : (state : SyncState) (s : S) → is_started state ≡ false → Holds state s
  free_holds Clean s free = tt
  free_holds Dirty s free = tt
  free_holds (Started t) s free = absurd (cc)

  good : (r : Progress) (w : Writer S) → Knows w.held.state w.store → Good r w
  good (Ok p) w knows = knows
  good (Err e) w knows = may_hold w.held.state w.store knows

  -- Polls.

  settled : (t : Ticket) (p : Poll (Result Unit Error)) (held : Ticket) (h : Held) (mid : S) (r : Progress) (new : Writer S) → PollsTicket t p held → Promises c.bytes c.left c.promised mid held b → Settled p mid held h r new
      → (new.store ≡ mid) × Knows new.held.state new.store × (r ≡ is_done → is_started new.held.state ≡ false)
  settled t (poll.Ready (Ok u)) held h mid r new ticket hopes did = rw did.1 (refl, polled_ok c mid b t held u ticket hopes, λ done. refl)
  settled t (poll.Ready (Err e)) held h mid r new ticket hopes did = rw did.1 (refl, hopes, λ done. absurd (let failed = did.0 in cc))
  settled t poll.Pending held h mid r new ticket hopes did = rw did.1 (refl, hopes, λ done. absurd (let pending = did.0 in cc))

  waits : (task : ℕ) (state : SyncState) (old : Writer S) (r : Progress) (new : Writer S) (x : List Noted) → old.held.state ≡ state → Knows state old.store → WaitsFor c task state old r new x
      → Left c b old.store new.store × Knows new.held.state new.store × (r ≡ is_done → is_started new.held.state ≡ false)
  waits task Clean old r new x is knows did = rw (did.1, is) (left_same old.store old.store refl, knows, λ done. refl)
  waits task Dirty old r new x is knows did = rw (did.1, is) (left_same old.store old.store refl, tt, λ done. refl)
  waits task (Started t) old r new x is knows did =
      let polls = did.3 in
      let came = settled t did.0 did.2 old.held did.1 r new did.4 (polls.1 b knows).1 did.6 in
      (subst (λ (s : S). Left c b old.store s) (sym came.0) (polls.3 b (is_of t old.store knows)), came.1, came.2)

  pub waited : (task : ℕ) (old : Writer S) (r : Progress) (new : Writer S) (x : List Noted) → Knows old.held.state old.store → Waits c task old r new x → Left c b old.store new.store × Knows new.held.state new.store
  waited task old r new x knows did = let came = waits task old.held.state old r new x refl knows did in (came.0, came.1)

  -- Syncs.

  settles : (task : ℕ) (d : Done) (old : Writer S) (r : Progress) (new : Writer S) (x : List Noted) → (d ≡ Now → IsDurable c.bytes c.left old.store b) → ((t : Ticket) → d ≡ Gated t → Promises c.bytes c.left c.promised old.store t b) → Settles c task d old r new x → Went old r new
  settles task Now old r new x now hopes did = rw (did.0, did.1) (left_same old.store old.store refl, now refl)
  settles task (Gated t) old r new x now hopes did =
      let came = waits task (Started t) (writer old.store (with_state old.held (Started t))) r new x refl (hopes t refl) did in
      (came.0, good r new came.1)

  keeps_behind : (task : ℕ) (d : Result Done Error) (y : List Noted) (old mid : Writer S) (r : Progress) (new : Writer S) (x : List Noted) → Left c b old.store mid.store → is_started mid.held.state ≡ false
      → (d ≡ Ok Now → IsDurable c.bytes c.left mid.store b) → ((t : Ticket) → d ≡ Ok (Gated t) → Promises c.bytes c.left c.promised mid.store t b) → SettlesBehind c task d y mid r new x → Went old r new
  keeps_behind task (Ok d) y old mid r new x first free now hopes did =
      let last = settles task d mid r new did.0 (λ is. now (rw is refl)) (λ t is. hopes t (rw is refl)) did.2 in
      (left_then old.store mid.store new.store first last.0, last.1)
  keeps_behind task (Err e) y old mid r new x first free now hopes did = rw (did.0, did.1) (first, free_holds mid.held.state mid.store free)

  syncs : (task : ℕ) (old : Writer S) (r : Progress) (new : Writer S) (x : List Noted) → is_started old.held.state ≡ false → SyncsBlob c b task old r new x → Went old r new
  syncs task old r new x free did =
      keeps_behind task did.0 did.2 old (writer did.1 old.held) r new x did.3.2 free
      (λ is. let synced : IsSync c old.store b (Ok Now) did.1 did.2 = rw is at did.3 in synced.1.1) (λ t is. let synced : IsSync c old.store b (Ok (Gated t)) did.1 did.2 = rw is at did.3 in synced.1.1) did.5

  writes_durably : (task at : ℕ) (w : Chunked) (old : Writer S) (r : Progress) (new : Writer S) (x : List Noted) → is_started old.held.state ≡ false → IsDurable c.bytes c.left old.store b → WritesDurably c b task at w old r new x → Went old r new
  writes_durably task at w old r new x free durable did =
      keeps_behind task did.0 did.2 old (writer did.1 old.held) r new x did.3.3 free
      (λ is. let wrote : IsWrite c old.store b at w durably (Ok Now) did.1 did.2 = rw is at did.3 in wrote.1.1 refl durable)
      (λ t is. let wrote : IsWrite c old.store b at w durably (Ok (Gated t)) did.1 did.2 = rw is at did.3 in wrote.1.1 refl durable) did.5

  -- Steps behind which no sync is held.

  rests : (old : Writer S) (r : Progress) (new : Writer S) (x : List Noted) → Free old → Rests old r new x → Freely old r new
  rests old r new x free did = rw (did.0, did.1) ((left_same old.store old.store refl, free.0), free.1)

  lacks : (old : Writer S) (r : Progress) (new : Writer S) (x : List Noted) → is_started old.held.state ≡ false → Lacks old r new x → Freely old r new
  lacks old r new x free did = rw (did.0, did.1, did.2) ((left_same old.store old.store refl, free_holds old.held.state old.store free), free)

  changed : (at : ℕ) (w : Chunked) (d : Result Done Error) (mid : S) (x : List Noted) (old : Writer S) (r : Progress) (new : Writer S) → IsWrite c old.store b at w plain d mid x → Changed c d mid old.held r new → Freely old r new
  changed at w (Ok Now) mid x old r new writes did = rw (did.0, did.1) ((writes.3, tt), refl)
  changed at w (Ok (Gated t)) mid x old r new writes did = rw (did.0, did.2) (((writes.2 t new.store refl refl did.1.0).1, tt), refl)
  changed at w (Err e) mid x old r new writes did = rw (did.0, did.1) ((writes.3, tt), refl)

  writes_out : (at : ℕ) (w : Chunked) (old : Writer S) (r : Progress) (new : Writer S) (x : List Noted) → WritesOut c b at w old r new x → Freely old r new
  writes_out at w old r new x did = changed at w did.0 did.1 x old r new did.2 did.4

  drains_taken : (t : Result (Option (Chunked × ℕ)) Error) (old : Writer S) (r : Progress) (new : Writer S) (x : List Noted) → Free old → DrainsTaken c b t old r new x → Freely old r new
  drains_taken (Err e) old r new x free did = lacks old r new x free.1 did
  drains_taken (Ok None) old r new x free did = rests (writer old.store (with_tip old.held (drained old.held.tip))) r new x free did
  drains_taken (Ok (Some w)) old r new x free did = writes_out w.1 w.0 (writer old.store (with_tip old.held (drained old.held.tip))) r new x did

  drains : (old : Writer S) (r : Progress) (new : Writer S) (x : List Noted) → Free old → Drains c b old r new x → Freely old r new
  drains old r new x free did = drains_taken did.0 old r new x free did.2

  resized_blob : (a : Result Unit Error) (mid : S) (old : Writer S) (r : Progress) (new : Writer S) → Left c b old.store mid → r ≡ progress_of a → new ≡ writer mid (with_state old.held Dirty) → Freely old r new
  resized_blob (Ok u) mid old r new first answers is = rw (answers, is) ((first, tt), refl)
  resized_blob (Err e) mid old r new first answers is = rw (answers, is) ((first, tt), refl)

  resizes_blob : (len : ℕ) (old : Writer S) (r : Progress) (new : Writer S) (x : List Noted) → ResizesBlob c b len old r new x → Freely old r new
  resizes_blob len old r new x did = resized_blob did.0 did.1 old r new did.2.2 did.4 did.5

  freely_behind : (next : Act S) (a : Progress) (y : List Noted) (old mid : Writer S) (r : Progress) (new : Writer S) (x : List Noted) → Freely old a mid → ((z : List Noted) → Free mid → next mid r new z → Freely mid r new) → Behind next a y mid r new x → Freely old r new
  freely_behind next (Ok (poll.Ready u)) y old mid r new x first so did =
      let last = so did.0 (first.0.1, first.1) did.2 in
      ((left_then old.store mid.store new.store first.0.0 last.0.0, last.0.1), last.1)
  freely_behind next (Ok poll.Pending) y old mid r new x first so did = rw (did.0, did.1) first
  freely_behind next (Err e) y old mid r new x first so did = rw (did.0, did.1) first

  went_behind : (next : Act S) (a : Progress) (y : List Noted) (old mid : Writer S) (r : Progress) (new : Writer S) (x : List Noted) → Freely old a mid → ((z : List Noted) → Free mid → next mid r new z → Went mid r new) → Behind next a y mid r new x → Went old r new
  went_behind next (Ok (poll.Ready u)) y old mid r new x first so did =
      let last = so did.0 (first.0.1, first.1) did.2 in
      (left_then old.store mid.store new.store first.0.0 last.0, last.1)
  went_behind next (Ok poll.Pending) y old mid r new x first so did = rw (did.0, did.1) first.0
  went_behind next (Err e) y old mid r new x first so did = rw (did.0, did.1) first.0

  resizes_taken : (len : ℕ) (t : Result (Option (Chunked × ℕ)) Error) (old : Writer S) (r : Progress) (new : Writer S) (x : List Noted) → is_started old.held.state ≡ false → ResizesTaken c b len t old r new x → Freely old r new
  resizes_taken len (Err e) old r new x free did = lacks old r new x free did
  resizes_taken len (Ok None) old r new x free did = resizes_blob len (writer old.store (with_tip old.held (resized_tip old.held.tip len))) r new x did
  resizes_taken len (Ok (Some w)) old r new x free did =
      let first : Writer S = writer old.store (with_tip old.held (resized_tip old.held.tip len)) in
      freely_behind (ResizesBlob c b len) did.0 did.2 first did.1 r new x (writes_out w.1 w.0 first did.0 did.1 did.2 did.3) (λ z here next. resizes_blob len did.1 r new z next) did.4

  -- Chunks.

  merges : (at : ℕ) (chunk : List ℕ) (old : Writer S) (r : Progress) (new : Writer S) (x : List Noted) → Free old → MergesChunk at chunk old r new x → Freely old r new
  merges at chunk old (Ok p) new x free did = rw did.1 ((left_same old.store old.store refl, free.0), free.1)
  merges at chunk old (Err e) new x free did = rw did.1 ((left_same old.store old.store refl, free_holds old.held.state old.store free.1), free.1)

  raised : (end : ℕ) (r : Progress) (old mid new : Writer S) → Freely old r mid → Raised end r mid new → Freely old r new
  raised end (Ok p) old mid new went is = rw is went
  raised end (Err e) old mid new went is = rw is went

  writes_buffer : (at end : ℕ) (w : Result Chunked Error) (old : Writer S) (r : Progress) (new : Writer S) (x : List Noted) → is_started old.held.state ≡ false → WritesBuffer c b at end w old r new x → Freely old r new
  writes_buffer at end (Err e) old r new x free did = lacks old r new x free did
  writes_buffer at end (Ok w) old r new x free did = raised end r old did.0 new (writes_out at w old r did.0 x did.1) did.2

  writes_chunk : (at : ℕ) (chunk : List ℕ) (old : Writer S) (r : Progress) (new : Writer S) (x : List Noted) → is_started old.held.state ≡ false → WritesChunk c b at chunk old r new x → Freely old r new
  writes_chunk at chunk old r new x free did = writes_buffer at (at + length chunk) did.0 old r new x free did.2

  puts_past : (at : ℕ) (chunk : List ℕ) (within : Bool) (old : Writer S) (r : Progress) (new : Writer S) (x : List Noted) → Free old → PutsPast c b at chunk within old r new x → Freely old r new
  puts_past at chunk true old r new x free did = merges at chunk old r new x free did
  puts_past at chunk false old r new x free did = writes_chunk at chunk old r new x free.1 did

  puts_beyond : (at : ℕ) (chunk : List ℕ) (in_the_way : Bool) (old : Writer S) (r : Progress) (new : Writer S) (x : List Noted) → Free old → PutsBeyond c b at chunk in_the_way old r new x → Freely old r new
  puts_beyond at chunk true old r new x free did =
      freely_behind (PutsAgain c b at chunk) did.0 did.2 old did.1 r new x (drains old did.0 did.1 did.2 free did.3) (λ z here next. puts_past at chunk (is_within did.1.held.tip at (length chunk)) did.1 r new z here next) did.4
  puts_beyond at chunk false old r new x free did = writes_chunk at chunk old r new x free.1 did

  puts_for : (at : ℕ) (chunk : List ℕ) (within : Bool) (old : Writer S) (r : Progress) (new : Writer S) (x : List Noted) → Free old → PutsFor c b at chunk within old r new x → Freely old r new
  puts_for at chunk true old r new x free did = merges at chunk old r new x free did
  puts_for at chunk false old r new x free did = puts_beyond at chunk (is_in_the_way old.held.tip (at + length chunk)) old r new x free did

  puts_chunks : (at : ℕ) (chunks : List (List ℕ)) (old : Writer S) (r : Progress) (new : Writer S) (x : List Noted) → Free old → PutsChunks c b at chunks old r new x → Freely old r new
  puts_chunks at [] old r new x free did = rests old r new x free did
  puts_chunks at (chunk ∷ chunks) old r new x free did =
      freely_behind (PutsChunks c b (at + length chunk) chunks) did.0 did.2 old did.1 r new x (puts_for at chunk (is_within old.held.tip at (length chunk)) old did.0 did.1 did.2 free did.3)
      (λ z here next. puts_chunks (at + length chunk) chunks did.1 r new z here next) did.4

  -- Calls.

  begun_sync : (a : Result Ticket Error) (mid : S) (x : List Noted) (old : Writer S) (r : Progress) (new : Writer S) → is_started old.held.state ≡ false → IsStart c old.store b a mid x → HoldsStarted a mid old.held r new → Went old r new
  begun_sync (Ok t) mid x old r new free starts did = rw (did.0, did.1) (starts.2, starts.1.1)
  begun_sync (Err e) mid x old r new free starts did = rw (did.0, did.1) (starts.2, free_holds old.held.state mid free)

  begins : (state : SyncState) (old : Writer S) (r : Progress) (new : Writer S) (x : List Noted) → old.held.state ≡ state → Knows old.held.state old.store → BeginsFor c b state old r new x → Went old r new
  begins Clean old r new x is knows did = rw (did.0, did.1) (left_same old.store old.store refl, knows)
  begins Dirty old r new x is knows did = begun_sync did.0 did.1 x old r new (rw is refl) did.2 did.4
  begins (Started t) old r new x is knows did = rw (did.0, did.1) (left_same old.store old.store refl, knows)

  saves_changes : (task : ℕ) (state : SyncState) (old : Writer S) (r : Progress) (new : Writer S) (x : List Noted) → Free old → SavesChanges c b task state old r new x → Went old r new
  saves_changes task Clean old r new x free did = (rests old r new x free did).0
  saves_changes task Dirty old r new x free did = syncs task old r new x free.1 did
  saves_changes task (Started t) old r new x free did = syncs task old r new x free.1 did

  out_and_sync : (task at : ℕ) (w : Chunked) (old : Writer S) (r : Progress) (new : Writer S) (x : List Noted) → Then (WritesOut c b at w) (SyncsBlob c b task) old r new x → Went old r new
  out_and_sync task at w old r new x did = went_behind (SyncsBlob c b task) did.0 did.2 old did.1 r new x (writes_out at w old did.0 did.1 did.2 did.3) (λ z here next. syncs task did.1 r new z here.1 next) did.4

  saves_bytes : (task at : ℕ) (w : Chunked) (state : SyncState) (old : Writer S) (r : Progress) (new : Writer S) (x : List Noted) → old.held.state ≡ state → Free old → SavesBytes c b task at w state old r new x → Went old r new
  saves_bytes task at w Clean old r new x is free did = writes_durably task at w old r new x free.1 (rw is at free.0) did
  saves_bytes task at w Dirty old r new x is free did = out_and_sync task at w old r new x did
  saves_bytes task at w (Started t) old r new x is free did = out_and_sync task at w old r new x did

  saves_taken : (task : ℕ) (t : Result (Option (Chunked × ℕ)) Error) (old : Writer S) (r : Progress) (new : Writer S) (x : List Noted) → Free old → SavesTaken c b task t old r new x → Went old r new
  saves_taken task (Err e) old r new x free did = (lacks old r new x free.1 did).0
  saves_taken task (Ok None) old r new x free did = saves_changes task old.held.state (writer old.store (with_tip old.held (drained old.held.tip))) r new x free did
  saves_taken task (Ok (Some w)) old r new x free did = saves_bytes task w.1 w.0 old.held.state (writer old.store (with_tip old.held (drained old.held.tip))) r new x refl free did

  finishes : (task : ℕ) (rest : Rest) (old : Writer S) (r : Progress) (new : Writer S) (x : List Noted) → Free old → Finishes c b rest task old r new x → Went old r new
  finishes task work.Nothing old r new x free did = (rests old r new x free did).0
  finishes task work.Sync old r new x free did = saves_taken task did.0 old r new x free did.2
  finishes task (work.Resize len) old r new x free did = (resizes_taken len did.0 old r new x free.1 did.2).0
  finishes task (work.Write p) old r new x free did = (puts_chunks p.at p.chunks old r new x free did).0
  finishes task work.Start old r new x free did =
      went_behind (Begins c b) did.0 did.2 old did.1 r new x (drains old did.0 did.1 did.2 free did.3) (λ z here next. begins did.1.held.state did.1 r new z refl here.0 next) did.4

  pub closes_held : (state : SyncState) (s new : S) → (state ≡ Clean) ⊎ (state ≡ Dirty) → IsClose c s b new → ClosesWriter c state b s new
  closes_held state s new (inl is) did = subst (λ (a : SyncState). ClosesWriter c a b s new) (sym is) did
  closes_held state s new (inr is) did = subst (λ (a : SyncState). ClosesWriter c a b s new) (sym is) did

  pub closes_started : (state : SyncState) (t : Ticket) (s mid new : S) → state ≡ Started t → IsGivenUp c s t mid → (is_numbered t ≡ false → mid ≡ s) → IsClose c mid b new → ClosesWriter c state b s new
  closes_started state t s mid new is up ready did = subst (λ (a : SyncState). ClosesWriter c a b s new) (sym is) (mid, up, ready, did)

  pub holder_closes : (state : SyncState) (s new : S) → Holds state s → ClosesWriter c state b s new → Left c b s new
  holder_closes Clean s new holds did = did.1
  holder_closes Dirty s new holds did = did.1
  holder_closes (Started t) s new holds did = left_then s did.0 new (did.1.2 b holds) did.3.1

  pub closes_left : (state : SyncState) (s new : S) → Knows state s → ClosesWriter c state b s new → Left c b s new
  closes_left state s new knows did = holder_closes state s new (may_hold state s knows) did

  -- what a call answers, by what the writer knows then
  abbrev pub Answers : S → S → Stepped (B × Held) ((B × Held) × Rest) → Type 0
  Answers old store s = Left c b old store × IfStepped s (λ w. Knows w.1.state store) (λ p. Knows p.0.1.state store)

  pub ends : (rest : Rest) (r : Progress) (old last : Writer S) (store : S) (s : Stepped (B × Held) ((B × Held) × Rest)) → Went old r last → Ends c b rest r last store s → Answers old.store store s
  ends rest (Ok (poll.Ready u)) old last store (step.Done w) went did = rw (did.1, did.2) went
  ends rest (Ok poll.Pending) old last store (step.Waiting p) went did = rw (did.0.1, did.0.2) went
  ends rest (Err e) old last store (step.Failed f) went did = (left_then old.store last.store store went.0 (holder_closes last.held.state last.store store went.1 did.1), tt)
  ends rest (Ok (poll.Ready u)) old last store (step.Waiting p) went did = absurd did
  ends rest (Ok (poll.Ready u)) old last store (step.Failed f) went did = absurd did
  ends rest (Ok poll.Pending) old last store (step.Done w) went did = absurd did
  ends rest (Ok poll.Pending) old last store (step.Failed f) went did = absurd did
  ends rest (Err e) old last store (step.Done w) went did = absurd did
  ends rest (Err e) old last store (step.Waiting p) went did = absurd did

  runs_behind : (rest : Rest) (task : ℕ) (a : Progress) (y : List Noted) (old mid : Writer S) (store : S) (s : Stepped (B × Held) ((B × Held) × Rest)) (x : List Noted) → Left c b old.store mid.store → Knows mid.held.state mid.store → (a ≡ is_done → is_started mid.held.state ≡ false)
      → RunsBehind c b rest task a y mid store s x → Answers old.store store s
  runs_behind rest task (Ok (poll.Ready u)) y old mid store s x first knows free did =
      let last = finishes task rest mid did.2 did.3 did.0 (knows, free refl) did.4 in
      ends work.Nothing did.2 old did.3 store s (left_then old.store mid.store did.3.store first last.0, last.1) did.5
  runs_behind rest task (Ok poll.Pending) y old mid store s x first knows free did = ends rest (Ok poll.Pending) old mid store s (first, knows) did.1
  runs_behind rest task (Err e) y old mid store s x first knows free did = ends rest (Err e) old mid store s (first, may_hold mid.held.state mid.store knows) did.1

  pub runs : (rest : Rest) (task : ℕ) (old : Writer S) (store : S) (s : Stepped (B × Held) ((B × Held) × Rest)) (x : List Noted) → Knows old.held.state old.store → Runs c b rest task old store s x → Answers old.store store s
  runs rest task old store s x knows did =
      let came = waits task old.held.state old did.0 did.1 did.2 refl knows did.3 in
      runs_behind rest task did.0 did.2 old did.1 store s x came.0 came.1 came.2 did.4

  pub ended : (e : Error) (old : Writer S) (store : S) (s : Stepped (B × Held) ((B × Held) × Rest)) → Knows old.held.state old.store → Ends c b work.Nothing (Err e) old store s → Answers old.store store s
  ended e old store s knows over = ends work.Nothing (Err e) old old store s (left_same old.store old.store refl, may_hold old.held.state old.store knows) over

  starts_for : (task : ℕ) (has : Bool) (old : Writer S) (store : S) (s : Stepped (B × Held) ((B × Held) × Rest)) (x : List Noted) → Knows old.held.state old.store → StartsFor c b task has old store s x → Answers old.store store s
  starts_for task true old store s x knows did = runs work.Start task old store s x knows did
  starts_for task false old store s x knows did = ends work.Nothing did.0 old did.1 store s (begins old.held.state old did.0 did.1 x refl knows did.2) did.3

  pub starts_leave : (task : ℕ) (old : Writer S) (store : S) (g : Begun (B × Held) ((B × Held) × Rest)) (x : List Noted) → Knows old.held.state old.store → Starts c b task old store g x
      → Left c b old.store store × IfBegun g (λ w. Knows w.1.state store) (λ p. Knows p.0.1.state store)
  starts_leave task old store g x knows did =
      let came = starts_for task (has_bytes old.held.tip.bytes) old store did.0 x knows did.1 in
      (came.0, rw did.2 (with_handle_as did.0 _ _ came.1))
