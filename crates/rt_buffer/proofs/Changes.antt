-- A writer whose changes are shown.
use Rattle.rt_buffer.proofs.Prelude.{◌≡◌, ◌≤◌, ◌⊎◌, ◌*◌, arith, inl, inr, ℕ, ◌+◌, List, [], ◌∷◌, length, Option, Some, None, Result, Ok, Err, refl, sym, ap, ◌∙◌, subst, Bool, true, false, leb-true, and_parts, mul-le-mul_right, ⊤, ◌^◌, nat_le, nat_lt, Error, Noted, Chunked, IsGivenUp, IsResize, IsWrite, Ghosts, Held, Dirty, Shows, Merging, Pieces, chunks_written, merged_chunks, pieces, Act, AreBuffers, Behind, Changed, DrainsTaken, IsBuffer, MergesChunk, Progress, PutsAgain, PutsBeyond, PutsChunks, PutsFor, PutsPast, Raised, ResizesBlob, ResizesTaken, ResizesTip, Writer, WritesBuffer, WritesOut, is_started, plain, progress_of, with_state, with_tip, writer, Tip, bytes_before, bytes_to_write, drained, is_within, laid_over, merged, raised, resized_tip, LiesOver, has_bytes, is_in_the_way, resized, written, Done, Now, Gated, Ticket}
use Rattle.std.specs.Prelude.{◌&&◌}
use Rattle.rt_base.specs.declared.poll.Poll.TheVariants as poll
use Rattle.rt_buffer.proofs.Laid.{flat_merged}
use Rattle.rt_buffer.proofs.Overlaid.{flat_beside, flat_drained, flat_longer, flat_resized, given_before, none_in_the_way}
use Rattle.rt_buffer.proofs.Shown.{shows_bytes, shows_none}

-- a step that is done shows these bytes, and none waits
abbrev pub Put : {S B : Type 0} → Ghosts S B → B → List ℕ → Progress → Writer S → Type 0
Put c b content (Ok (poll.Ready u)) new = Shows c.bytes c.left c.promised content new.held new.store b × (is_started new.held.state ≡ false)
Put c b content (Ok poll.Pending) new = ⊥
Put c b content (Err e) new = ⊤

-- a write to the blob
abbrev Wrote : {S B : Type 0} → Ghosts S B → B → List ℕ → Held → Progress → Writer S → Type 0
Wrote c b content h (Ok (poll.Ready u)) new = (c.bytes new.store b ≡ content) × (new.held ≡ with_state h Dirty)
Wrote c b content h (Ok poll.Pending) new = ⊥
Wrote c b content h (Err e) new = ⊤

changed_wrote : {S B : Type 0} (c : Ghosts S B) (b : B) (content : List ℕ) (d : Result Done Error) (mid : S) (h : Held) (r : Progress) (new : Writer S)
    → ((e : Done) → d ≡ Ok e → c.bytes mid b ≡ content) → ((t : Ticket) (after : S) → d ≡ Ok (Gated t) → IsGivenUp c mid t after → c.bytes after b ≡ c.bytes mid b) → Changed c d mid h r new → Wrote c b content h r new
changed_wrote c b content (Ok Now) mid h r new facts given_up did = rw (did.0, did.1) (facts Now refl, refl)
changed_wrote c b content (Ok (Gated t)) mid h r new facts given_up did = rw did.0 (given_up t new.store refl did.1 ∙ facts (Gated t) refl, did.2)
changed_wrote c b content (Err e) mid h r new facts given_up did = rw did.0 tt

writes_out : {S B : Type 0} (c : Ghosts S B) (b : B) (at : ℕ) (w : Chunked) (old : Writer S) (r : Progress) (new : Writer S) (x : List Noted) → WritesOut c b at w old r new x → Wrote c b (written at w.bytes (c.bytes old.store b)) old.held r new
writes_out c b at w old r new x did =
    changed_wrote c b (written at w.bytes (c.bytes old.store b)) did.0 did.1 old.held r new (λ d is. let wrote : IsWrite c old.store b at w plain (Ok d) did.1 x = rw is at did.2 in wrote.1.0)
    (λ t after is gives. (did.2.2 t after refl is gives.0).0) did.4

begins_before : (t : Tip) (at len : ℕ) → is_within t at len ≡ true → t.offset ≤ at
begins_before t at len within = leb-true t.offset at (and_parts (nat_le t.offset at) (nat_le (at + len) (t.offset + t.capacity) && nat_lt (at + len) (2 ^ 64)) within).0

merge_put : {S B : Type 0} (c : Ghosts S B) (b : B) (content : List ℕ) (at : ℕ) (chunk : List ℕ) (old : Writer S) (r : Progress) (new : Writer S) (x : List Noted)
    → is_within old.held.tip at (length chunk) ≡ true → Shows c.bytes c.left c.promised content old.held old.store b → is_started old.held.state ≡ false → MergesChunk at chunk old r new x → Put c b (written at chunk content) r new
merge_put c b content at chunk old (Ok p) new x within shows settled did =
    let flat = flat_merged old.held.tip chunk at (c.bytes old.store b) shows.0 (begins_before old.held.tip at (length chunk) within) in
    rw (did.0, did.1) ((flat.0, flat.1 ∙ ap (λ (l : List ℕ). written at chunk l) shows.1, shows.2), settled)
merge_put c b content at chunk old (Err e) new x within shows settled did = tt

-- a chunk that is written to the blob
beside : (t : Tip) (chunk : List ℕ) (at : ℕ) (content : List ℕ) → is_in_the_way t (at + length chunk) ≡ false → LiesOver t content
    → LiesOver (raised t (at + length chunk)) (written at chunk content) × (laid_over (raised t (at + length chunk)) (written at chunk content) ≡ written at chunk (laid_over t content))
beside t chunk at content free lies = flat_beside t.offset t.capacity t.bytes chunk at content free lies

raised_put : {S B : Type 0} (c : Ghosts S B) (b : B) (content : List ℕ) (at : ℕ) (chunk : List ℕ) (old mid : Writer S) (r : Progress) (new : Writer S)
    → is_in_the_way old.held.tip (at + length chunk) ≡ false → Shows c.bytes c.left c.promised content old.held old.store b → Wrote c b (written at chunk (c.bytes old.store b)) old.held r mid → Raised (at + length chunk) r mid new
    → Put c b (written at chunk content) r new
raised_put c b content at chunk old mid (Ok (poll.Ready u)) new free shows wrote did =
    let flat = beside old.held.tip chunk at (c.bytes old.store b) free shows.0 in
    rw (did, wrote.1, wrote.0) ((flat.0, flat.1 ∙ ap (λ (l : List ℕ). written at chunk l) shows.1, tt), refl)
raised_put c b content at chunk old mid (Ok poll.Pending) new free shows wrote did = absurd wrote
raised_put c b content at chunk old mid (Err e) new free shows wrote did = tt

buffer_put : {S B : Type 0} (c : Ghosts S B) (b : B) (content : List ℕ) (at : ℕ) (chunk : List ℕ) (buffer : Result Chunked Error) (old : Writer S) (r : Progress) (new : Writer S) (x : List Noted)
    → is_in_the_way old.held.tip (at + length chunk) ≡ false → Shows c.bytes c.left c.promised content old.held old.store b → IsBuffer chunk buffer → WritesBuffer c b at (at + length chunk) buffer old r new x → Put c b (written at chunk content) r new
buffer_put c b content at chunk (Ok w) old r new x free shows is did =
    let out : Wrote c b (written at w.bytes (c.bytes old.store b)) old.held r did.0 = writes_out c b at w old r did.0 x did.1 in
    let wrote : Wrote c b (written at chunk (c.bytes old.store b)) old.held r did.0 = rw is at out in
    raised_put c b content at chunk old did.0 r new free shows wrote did.2
buffer_put c b content at chunk (Err e) old r new x free shows is did = rw did.0 tt

again_put : {S B : Type 0} (c : Ghosts S B) (b : B) (content : List ℕ) (at : ℕ) (chunk : List ℕ) (within : Bool) (old : Writer S) (r : Progress) (new : Writer S) (x : List Noted)
    → is_within old.held.tip at (length chunk) ≡ within → is_in_the_way old.held.tip (at + length chunk) ≡ false → Shows c.bytes c.left c.promised content old.held old.store b → is_started old.held.state ≡ false
    → PutsPast c b at chunk within old r new x → Put c b (written at chunk content) r new
again_put c b content at chunk true old r new x is free shows settled did = merge_put c b content at chunk old r new x is shows settled did
again_put c b content at chunk false old r new x is free shows settled did = buffer_put c b content at chunk did.0 old r new x free shows did.1 did.2

-- the tip is written out
abbrev pub Drained : {S B : Type 0} → Ghosts S B → B → List ℕ → Progress → Writer S → Type 0
Drained c b content (Ok (poll.Ready u)) mid = Shows c.bytes c.left c.promised content mid.held mid.store b × (has_bytes mid.held.tip.bytes ≡ false) × (is_started mid.held.state ≡ false)
Drained c b content (Ok poll.Pending) mid = ⊥
Drained c b content (Err e) mid = ⊤

wrote_drained : {S B : Type 0} (c : Ghosts S B) (b : B) (content : List ℕ) (old : Writer S) (r : Progress) (new : Writer S)
    → Shows c.bytes c.left c.promised content old.held old.store b → Wrote c b (laid_over old.held.tip (c.bytes old.store b)) (with_tip old.held (drained old.held.tip)) r new → Drained c b content r new
wrote_drained c b content old (Ok (poll.Ready u)) new shows wrote =
    let flat = flat_drained old.held.tip (c.bytes old.store b) shows.0 in
    rw (wrote.1, wrote.0) ((flat.0, flat.1 ∙ shows.1, tt), refl, refl)
wrote_drained c b content old (Ok poll.Pending) new shows wrote = absurd wrote
wrote_drained c b content old (Err e) new shows wrote = tt

pub drains_taken : {S B : Type 0} (c : Ghosts S B) (b : B) (content : List ℕ) (old : Writer S) (t : Result (Option (Chunked × ℕ)) Error) (r : Progress) (new : Writer S) (x : List Noted)
    → Shows c.bytes c.left c.promised content old.held old.store b → is_started old.held.state ≡ false → AreBuffers (bytes_to_write old.held.tip) t → DrainsTaken c b t old r new x → Drained c b content r new
drains_taken c b content old (Err e) r new x shows settled are did = rw did.0 tt
drains_taken c b content old (Ok None) r new x shows settled are did =
    let same : c.bytes old.store b ≡ laid_over old.held.tip (c.bytes old.store b) = shows_none old.held.tip.offset old.held.tip.capacity old.held.tip.bytes (c.bytes old.store b) shows.0 are in
    let flat : LiesOver (drained old.held.tip) (c.bytes old.store b) × (laid_over (drained old.held.tip) (c.bytes old.store b) ≡ c.bytes old.store b) =
    subst (λ (l : List ℕ). LiesOver (drained old.held.tip) l × (laid_over (drained old.held.tip) l ≡ l)) (sym same) (flat_drained old.held.tip (c.bytes old.store b) shows.0) in
    rw (did.0, did.1) ((flat.0, flat.1 ∙ (same ∙ shows.1), shows.2), refl, settled)
drains_taken c b content old (Ok (Some w)) r new x shows settled are did =
    let wrote : Wrote c b (written w.1 w.0.bytes (c.bytes old.store b)) (with_tip old.held (drained old.held.tip)) r new = writes_out c b w.1 w.0 (writer old.store (with_tip old.held (drained old.held.tip))) r new x did in
    wrote_drained c b content old r new shows (rw (shows_bytes old.held.tip (c.bytes old.store b) w.0.bytes w.1 are) at wrote)

drained_put : {S B : Type 0} (c : Ghosts S B) (b : B) (content : List ℕ) (at : ℕ) (chunk : List ℕ) (a : Progress) (y : List Noted) (mid : Writer S) (r : Progress) (new : Writer S) (x : List Noted)
    → Drained c b content a mid → Behind (PutsAgain c b at chunk) a y mid r new x → Put c b (written at chunk content) r new
drained_put c b content at chunk (Ok (poll.Ready u)) y mid r new x facts did =
    again_put c b content at chunk (is_within mid.held.tip at (length chunk)) mid r new did.0 refl (none_in_the_way mid.held.tip.offset mid.held.tip.capacity mid.held.tip.bytes (at + length chunk) facts.1) facts.0 facts.2 did.2
drained_put c b content at chunk (Ok poll.Pending) y mid r new x facts did = absurd facts
drained_put c b content at chunk (Err e) y mid r new x facts did = rw did.0 tt

beyond_put : {S B : Type 0} (c : Ghosts S B) (b : B) (content : List ℕ) (at : ℕ) (chunk : List ℕ) (way : Bool) (old : Writer S) (r : Progress) (new : Writer S) (x : List Noted)
    → is_in_the_way old.held.tip (at + length chunk) ≡ way → Shows c.bytes c.left c.promised content old.held old.store b → is_started old.held.state ≡ false
    → PutsBeyond c b at chunk way old r new x → Put c b (written at chunk content) r new
beyond_put c b content at chunk true old r new x is shows settled did =
    let drains = did.3 in
    drained_put c b content at chunk did.0 did.2 did.1 r new x (drains_taken c b content old drains.0 did.0 did.1 did.2 shows settled drains.1 drains.2) did.4
beyond_put c b content at chunk false old r new x is shows settled did = buffer_put c b content at chunk did.0 old r new x is shows did.1 did.2

put_for : {S B : Type 0} (c : Ghosts S B) (b : B) (content : List ℕ) (at : ℕ) (chunk : List ℕ) (within : Bool) (old : Writer S) (r : Progress) (new : Writer S) (x : List Noted)
    → is_within old.held.tip at (length chunk) ≡ within → Shows c.bytes c.left c.promised content old.held old.store b → is_started old.held.state ≡ false
    → PutsFor c b at chunk within old r new x → Put c b (written at chunk content) r new
put_for c b content at chunk true old r new x is shows settled did = merge_put c b content at chunk old r new x is shows settled did
put_for c b content at chunk false old r new x is shows settled did = beyond_put c b content at chunk (is_in_the_way old.held.tip (at + length chunk)) old r new x refl shows settled did

-- a step behind one that was put
behind_put : {S B : Type 0} (c : Ghosts S B) (b : B) (content last : List ℕ) (next : Act S) (a : Progress) (y : List Noted) (mid : Writer S) (r : Progress) (new : Writer S) (x : List Noted)
    → Put c b content a mid → ((z : List Noted) → Shows c.bytes c.left c.promised content mid.held mid.store b → is_started mid.held.state ≡ false → next mid r new z → Put c b last r new)
    → Behind next a y mid r new x → Put c b last r new
behind_put c b content last next (Ok (poll.Ready u)) y mid r new x put on did = on did.0 put.0 put.1 did.2
behind_put c b content last next (Ok poll.Pending) y mid r new x put on did = absurd put
behind_put c b content last next (Err e) y mid r new x put on did = rw did.0 tt

-- chunk by chunk
pub chunks_put : {S B : Type 0} (c : Ghosts S B) (b : B) (content : List ℕ) (at : ℕ) (chunks : List (List ℕ)) (old : Writer S) (r : Progress) (new : Writer S) (x : List Noted)
    → Shows c.bytes c.left c.promised content old.held old.store b → is_started old.held.state ≡ false → PutsChunks c b at chunks old r new x → Put c b (chunks_written at chunks content) r new
chunks_put c b content at [] old r new x shows settled did = rw (did.0, did.1) (shows, settled)
chunks_put c b content at (d ∷ ds) old r new x shows settled did =
    behind_put c b (written at d content) (chunks_written (at + length d) ds (written at d content)) (PutsChunks c b (at + length d) ds) did.0 did.2 did.1 r new x
    (put_for c b content at d (is_within old.held.tip at (length d)) old did.0 did.1 did.2 refl shows settled did.3)
    (λ z shown free next. chunks_put c b (written at d content) (at + length d) ds did.1 r new z shown free next) did.4

-- a new length
resized_put : {S B : Type 0} (c : Ghosts S B) (b : B) (content : List ℕ) (len : ℕ) (a : Result Unit Error) (mid : S) (old : Writer S) (r : Progress) (new : Writer S) (x : List Noted)
    → LiesOver old.held.tip (resized len (c.bytes old.store b)) → laid_over old.held.tip (resized len (c.bytes old.store b)) ≡ content
    → IsResize c old.store b len a mid x → r ≡ progress_of a → new ≡ writer mid (with_state old.held Dirty) → Put c b content r new
resized_put c b content len (Ok u) mid old r new x lies shows call is are =
    let same : c.bytes mid b ≡ resized len (c.bytes old.store b) = call.1 in
    rw (is, are, same) ((lies, shows, tt), refl)
resized_put c b content len (Err e) mid old r new x lies shows call is are = rw is tt

behind_resized : {S B : Type 0} (c : Ghosts S B) (b : B) (content : List ℕ) (len : ℕ) (a : Progress) (y : List Noted) (shown : List ℕ) (h : Held) (mid : Writer S) (r : Progress) (new : Writer S) (x : List Noted)
    → LiesOver h.tip (resized len shown) → laid_over h.tip (resized len shown) ≡ content → Wrote c b shown h a mid → Behind (ResizesBlob c b len) a y mid r new x → Put c b content r new
behind_resized c b content len (Ok (poll.Ready u)) y shown h mid r new x lies shows wrote did =
    let act = did.2 in
    let there : LiesOver mid.held.tip (resized len (c.bytes mid.store b)) = rw (wrote.1, wrote.0) lies in
    let seen : laid_over mid.held.tip (resized len (c.bytes mid.store b)) ≡ content = rw (wrote.1, wrote.0) shows in
    resized_put c b content len act.0 act.1 mid r new did.0 there seen act.2 act.4 act.5
behind_resized c b content len (Ok poll.Pending) y shown h mid r new x lies shows wrote did = absurd wrote
behind_resized c b content len (Err e) y shown h mid r new x lies shows wrote did = rw did.0 tt

resizes_taken : {S B : Type 0} (c : Ghosts S B) (b : B) (content : List ℕ) (len : ℕ) (t : Result (Option (Chunked × ℕ)) Error) (old : Writer S) (r : Progress) (new : Writer S) (x : List Noted)
    → Shows c.bytes c.left c.promised content old.held old.store b → AreBuffers (bytes_before old.held.tip len) t → ResizesTaken c b len t old r new x → Put c b (resized len content) r new
resizes_taken c b content len (Err e) old r new x shows are did = rw did.0 tt
resizes_taken c b content len (Ok None) old r new x shows are did =
    let flat = flat_resized old.held.tip len (c.bytes old.store b) are (λ none. shows_none old.held.tip.offset old.held.tip.capacity old.held.tip.bytes (c.bytes old.store b) shows.0 none) shows.0 in
    resized_put c b (resized len content) len did.0 did.1 (writer old.store (with_tip old.held (resized_tip old.held.tip len))) r new x flat.0 (flat.1 ∙ ap (λ (l : List ℕ). resized len l) shows.1) did.2 did.4 did.5
resizes_taken c b content len (Ok (Some w)) old r new x shows are did =
    let given = given_before old.held.tip len (w.0.bytes, w.1) are in
    let h : Held = with_tip old.held (resized_tip old.held.tip len) in
    let wrote : Wrote c b (written w.1 w.0.bytes (c.bytes old.store b)) h did.0 did.1 = writes_out c b w.1 w.0 (writer old.store h) did.0 did.1 did.2 did.3 in
    let shown : written w.1 w.0.bytes (c.bytes old.store b) ≡ content = shows_bytes old.held.tip (c.bytes old.store b) w.0.bytes w.1 given.0 ∙ shows.1 in
    let long = flat_longer len old.held.tip.capacity content in
    let lies : LiesOver h.tip (resized len content) = rw given.1 long.0 in
    let seen : laid_over h.tip (resized len content) ≡ resized len content = rw given.1 long.1 in
    behind_resized c b (resized len content) len did.0 did.2 content h did.1 r new x lies seen (rw shown at wrote) did.4

pub resizes_put : {S B : Type 0} (c : Ghosts S B) (b : B) (content : List ℕ) (len : ℕ) (old : Writer S) (r : Progress) (new : Writer S) (x : List Noted)
    → Shows c.bytes c.left c.promised content old.held old.store b → ResizesTip c b len old r new x → Put c b (resized len content) r new
resizes_put c b content len old r new x shows did = resizes_taken c b content len did.0 old r new x shows did.1 did.2

either : (yes : Bool) → (yes ≡ true) ⊎ (yes ≡ false)
either true = inl refl
either false = inr refl

is_within_or : (t : Tip) (at len : ℕ) → (is_within t at len ≡ true) ⊎ (is_within t at len ≡ false)
is_within_or t at len = either (is_within t at len)

-- chunks that go into the tip, with those that are left written over it
pub merged_shows : (t : Tip) (at : ℕ) (chunks : List (List ℕ)) (content shown : List ℕ) → LiesOver t content → laid_over t content ≡ shown → (m : Merging) → m ≡ merged_chunks t at chunks
    → LiesOver m.tip content × (chunks_written m.left.at m.left.chunks (laid_over m.tip content) ≡ chunks_written at chunks shown)
merged_shows t at [] content shown lies shows m is = rw is (lies, shows)
merged_shows t at (d ∷ ds) content shown lies shows m is =
    elim (is_within_or t at (length d)) [
      | inl within ↦
          let flat = flat_merged t d at content lies (begins_before t at (length d) within) in
          merged_shows (merged t d at) (at + length d) ds content (written at d shown) flat.0 (flat.1 ∙ ap (λ (l : List ℕ). written at d l) shows) m (is ∙ rw within refl)
      | inr beyond ↦
          let stops : m ≡ record { tip = t; left = pieces at (d ∷ ds) } = is ∙ rw beyond refl in
          rw stops (lies, ap (λ (l : List ℕ). chunks_written at (d ∷ ds) l) shows)
    ]

pub merged_left : (t : Tip) (at : ℕ) (chunks : List (List ℕ)) (content : List ℕ) (tip : Tip) (left : Pieces) → tip ≡ (merged_chunks t at chunks).tip → left ≡ (merged_chunks t at chunks).left → LiesOver t content
    → LiesOver tip content × (chunks_written left.at left.chunks (laid_over tip content) ≡ chunks_written at chunks (laid_over t content))
merged_left t at chunks content tip left tips lefts lies = rw (tips, lefts) (merged_shows t at chunks content (laid_over t content) lies refl (merged_chunks t at chunks) refl)

pub merged_whole : (t : Tip) (at : ℕ) (chunks : List (List ℕ)) (content : List ℕ) (tip : Tip) (left : Pieces) → tip ≡ (merged_chunks t at chunks).tip → left ≡ (merged_chunks t at chunks).left → left.chunks ≡ [] → LiesOver t content
    → LiesOver tip content × (laid_over tip content ≡ chunks_written at chunks (laid_over t content))
merged_whole t at chunks content tip left tips lefts none lies =
    let m = merged_left t at chunks content tip left tips lefts lies in
    let empty : chunks_written left.at left.chunks (laid_over tip content) ≡ laid_over tip content = rw none refl in
    (m.0, sym empty ∙ m.1)

less_at : (t : Tip) (at : ℕ) (c : List ℕ) (cs : List (List ℕ)) (yes : Bool) → is_within t at (length c) ≡ yes → length (merged_chunks (merged t c at) (at + length c) cs).left.chunks ≤ length cs → length (merged_chunks t at (c ∷ cs)).left.chunks ≤ length (c ∷ cs)
less_at t at c cs true is rest = rw is (omega (arith, rest))
less_at t at c cs false is rest = rw is (omega arith)

-- no more chunks are left than there were
pub merged_less : (t : Tip) (at : ℕ) (chunks : List (List ℕ)) → length (merged_chunks t at chunks).left.chunks ≤ length chunks
merged_less t at [] = omega arith
merged_less t at (c ∷ cs) = less_at t at c cs (is_within t at (length c)) refl (merged_less (merged t c at) (at + length c) cs)

pub spent_less : (n m most old new : ℕ) → n ≤ m → old ≤ new + (most + n * (2 * most)) → old ≤ new + (most + m * (2 * most))
spent_less n m most old new less spent =
    let more : n * (2 * most) ≤ m * (2 * most) = mul-le-mul_right (2 * most) less in
    omega (arith, more, spent)
