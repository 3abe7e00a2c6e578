-- What the calls of a store in memory keep of its blobs.
use Rattle.rt_store.proofs.Prelude.{◌≡◌, ◌≢◌, ◌==◌, ◌<◌, ◌+◌, ℕ, zero, suc, Bool, true, false, cond, List, [], ◌∷◌, ◌++◌, slice_set, Some, None, Result, Ok, Err, arith, refl, sym, ap, ◌∙◌, eqb-false, eqb-true, Error, NoMemory, UnknownToken, WriteOptions, BlobVersion, Noted, Chunked, WritableChunks, IsOpened, Opens, OpensVersioned, Reads, Resizes, Saves, Syncs, Writes, after_open, after_resize, after_sync, after_write, blob_of, default_range, file_at, file_named, is_partition_name, open_refusal, open_refusal_of, opened_for, polled_ticket, started, version_for, with_blob, Blob, Mutation, Done, Now, Ticket, Ready, Numbered, IsDurable, KeepsPoll, KeepsRead, KeepsResize, KeepsStart, KeepsSync, KeepsWrite, Leaves, LeavesAll, LeavesWhenGivenUp, OfOne, OpensApart, Promises, StayApart, Stays, number_of, Passes, FileState, applied, closed, fresh_file, is_settled, mutated, synced, with_token, Kept, answered, moved_to, left_of, memory_apart, memory_bytes, memory_left, memory_opened, memory_promised, StoreState, at_blob, content_at, if_open, is_token, live, refusal_at}
use Rattle.std.proofs.Common.{slice_get, Option, IfOk}
use Rattle.rt_store.proofs.Leading.{set_here, set_other}
use Rattle.rt_store.specs.declared.mutation.Mutation.TheVariants as change

-- The blob of a call.

open_here : (n : ℕ) (b c : FileState) (yes : Bool) → is_token n b.token ≡ yes → if_open n (Some b) ≡ Some c → (b ≡ c) × (is_token n b.token ≡ true)
open_here n b c true is e = (cc, is)
open_here n b c false is e = let none : if_open n (Some b) ≡ None = rw is refl in absurd (cc)

is_open_at : (n : ℕ) (o : Option FileState) (b : FileState) → if_open n o ≡ Some b → (o ≡ Some b) × (is_token n b.token ≡ true)
is_open_at n None b e = absurd (cc)
is_open_at n (Some a) b e = let h = open_here n a b (is_token n a.token) refl e in (ap (λ (f : FileState). Some f) h.0, rw (sym h.0) h.1)

-- a change of a blob changes the blob of its token
changed_at : (files : List FileState) (k : Blob) (f : FileState → FileState) (b : FileState) → live files k ≡ Some b → (f b).token ≡ b.token → live (at_blob files k.place f (live files k)) k ≡ Some (f b)
changed_at files k f b is token =
    let o = is_open_at k.number (slice_get files k.place) b is in
    rw (is, set_here files k.place b (f b) o.0, token, o.1) refl

changed : {A : Type 0} (v : Kept) (k : Blob) (f : FileState → FileState) (b : FileState) (a : A) → blob_of v k ≡ Some b → (f b).token ≡ b.token → blob_of (answered v (with_blob v k f) (Ok a)) k ≡ Some (f b)
changed v k f b a is token = changed_at v.state.files k f b is token

unrefused : (o : Option FileState) (f : FileState → Option Error) → refusal_at o f ≡ None → (b : FileState) × (o ≡ Some b)
unrefused None f e = absurd (cc)
unrefused (Some b) f e = (b, refl)

mutated_parts : (m : Mutation) (b : FileState) (yes : Bool) → is_settled m b ≡ yes → ((mutated m b).content ≡ applied m b.content) × ((mutated m b).token ≡ b.token)
mutated_parts m b true is = rw is (refl, refl)
mutated_parts m b false is = rw is (refl, refl)

-- a durable write to a durable blob
durable_kept : (version : BlobVersion) (token : Option ℕ) (removed : Bool) (content base : List ℕ) (later : List Mutation) (m : Mutation) (at : ℕ) (bytes : List ℕ)
    → m ≡ change.Write at bytes true → left_of (Some (record { version = version; token = token; removed = removed; content = content; base = base; later = later })) ≡ Some content
    → left_of (Some (mutated m (record { version = version; token = token; removed = removed; content = content; base = base; later = later })))
    ≡ Some (mutated m (record { version = version; token = token; removed = removed; content = content; base = base; later = later })).content
durable_kept version token true content base [] m at bytes is e = let same : base ≡ content = cc in rw (is, same) refl
durable_kept version token false content base [] m at bytes is e = let same : base ≡ content = cc in rw (is, same) refl
durable_kept version token removed content base (l ∷ ls) m at bytes is e = absurd (cc)

write_shown : {A : Type 0} (v : Kept) (k : Blob) (m : Mutation) (d : A) (new : Kept) (b : FileState) → blob_of v k ≡ Some b → new ≡ answered v (with_blob v k (mutated m)) (Ok d) → memory_bytes new k ≡ applied m (memory_bytes v k)
write_shown v k m d new b is did =
    let parts = mutated_parts m b (is_settled m b) refl in
    rw (did, changed v k (mutated m) b d is parts.1, is) parts.0

write_kept : (v : Kept) (k : Blob) (m : Mutation) (at : ℕ) (bytes : List ℕ) (d : Done) (new : Kept) (b : FileState) → m ≡ change.Write at bytes true → blob_of v k ≡ Some b → new ≡ answered v (with_blob v k (mutated m)) (Ok d)
    → IsDurable memory_bytes memory_left v k → IsDurable memory_bytes memory_left new k
write_kept v k m at bytes d new b durable is did before =
    let parts = mutated_parts m b (is_settled m b) refl in
    let held : left_of (Some b) ≡ Some b.content = rw is at before in
    rw (did, changed v k (mutated m) b d is parts.1) (durable_kept b.version b.token b.removed b.content b.base b.later m at bytes durable held)

pub write_keeps : (v new : Kept) (k : Blob) (at : ℕ) (w : Chunked) (options : WriteOptions) (r : Result Done Error) (x : List Noted) → Writes v k at w.bytes r x → new ≡ answered v (after_write v k at w.bytes options) r
    → KeepsWrite memory_bytes memory_left memory_promised v k at w options r new
write_keeps v new k at w options (Ok d) x did is =
    let f = unrefused (blob_of v k) _ did.0 in
    let now : d ≡ Now = did.2 in (
      write_shown v k (change.Write at w.bytes options.sync) d new f.0 f.1 is,
      λ durable before. rw now (write_kept v k (change.Write at w.bytes options.sync) at w.bytes d new f.0 (rw durable refl) f.1 is before),
    )
write_keeps v new k at w options (Err e) x did is = tt

pub resize_keeps : (v new : Kept) (k : Blob) (len : ℕ) (r : Result Unit Error) (x : List Noted) → Resizes v k len r x → new ≡ answered v (after_resize v k len) r → KeepsResize memory_bytes v k len r new
resize_keeps v new k len (Ok u) x did is = let f = unrefused (blob_of v k) _ did.0 in write_shown v k (change.Resize len) u new f.0 f.1 is
resize_keeps v new k len (Err e) x did is = tt

sync_shown : {A : Type 0} (v : Kept) (k : Blob) (a : A) (new : Kept) → (b : FileState) × (blob_of v k ≡ Some b) → new ≡ answered v (after_sync v k) (Ok a) → (memory_bytes new k ≡ memory_bytes v k) × IsDurable memory_bytes memory_left new k
sync_shown v k a new f is = rw (is, changed v k synced f.0 a f.1 refl, f.1) (refl, refl)

pub sync_keeps : (v new : Kept) (k : Blob) (r : Result Done Error) (x : List Noted) → Syncs v k r x → new ≡ answered v (after_sync v k) r → KeepsSync memory_bytes memory_left memory_promised v k r new
sync_keeps v new k (Ok d) x did is =
    let now : d ≡ Now = did.2 in
    let s = sync_shown v k d new (unrefused (blob_of v k) _ did.0) is in
    (s.0, rw now s.1)
sync_keeps v new k (Err e) x did is = (rw is refl, tt)

started_keeps : (v new : Kept) (k : Blob) (e : Error) (t : Ticket) → new ≡ answered v (after_sync v k) (let r : Result Unit Error = Err e in r) → t ≡ Ready (Err e) → (memory_bytes new k ≡ memory_bytes v k) × Promises memory_bytes memory_left memory_promised new t k
started_keeps v new k e t is ready = rw (is, ready) (refl, tt)

failed_keeps : (v new : Kept) (k : Blob) (e : Error) (r : Result Ticket Error) → new ≡ answered v (after_sync v k) (let r : Result Unit Error = Err e in r) → r ≡ started (Err e) → KeepsStart memory_bytes memory_left memory_promised v k r new
failed_keeps v new k NoMemory r is did = rw did tt
failed_keeps v new k UnknownToken r is did = rw did tt
failed_keeps v new k e r is did = rw did (started_keeps v new k e (Ready (Err e)) is refl)

pub start_keeps : (v new : Kept) (k : Blob) (s : Result Unit Error) (r : Result Ticket Error) (x : List Noted) → Saves v k s x → r ≡ started s → new ≡ answered v (after_sync v k) s → KeepsStart memory_bytes memory_left memory_promised v k r new
start_keeps v new k (Ok u) r x saves did is = rw did (sync_shown v k u new (unrefused (blob_of v k) _ saves.0) is)
start_keeps v new k (Err e) r x saves did is = failed_keeps v new k e r is did

-- The others.

unequal : (n m : ℕ) (t : Bool) → (n == m) ≡ t → n ≢ m → (n == m) ≡ false
unequal n m true is other = absurd (other (eqb-true n m is))
unequal n m false is other = is

-- of two tokens at a place at most one is live
another_token : (n m : ℕ) (o : Option ℕ) → is_token n o ≡ true → n ≢ m → is_token m o ≡ false
another_token n m None is other = refl
another_token n m (Some t) is other = unequal t m (t == m) refl (λ same. other (sym (eqb-true t n is) ∙ same))

other_at : (k j : Blob) (files : List FileState) (b c : FileState) (same : Bool) → (k.place == j.place) ≡ same → live files k ≡ Some b → k.number ≢ j.number → (is_token j.number b.token ≡ false → is_token j.number c.token ≡ false) → live (slice_set files k.place c) j ≡ live files j
other_at k j files b c true at is other token =
    let place : k.place ≡ j.place = eqb-true k.place j.place at in
    let here = is_open_at k.number (slice_get files k.place) b is in
    let dead : is_token j.number b.token ≡ false = another_token k.number j.number b.token here.1 other in
    rw (sym place, set_here files k.place b c here.0, here.0, token dead, dead) refl
other_at k j files b c false at is other token =
    rw (set_other files k.place j.place c (eqb-false k.place j.place at)) refl

-- a change that makes no token live
abbrev NoNew : (FileState → FileState) → Type 0
NoNew f = (b : FileState) (n : ℕ) → is_token n b.token ≡ false → is_token n (f b).token ≡ false

other_live : (k j : Blob) (files : List FileState) (f : FileState → FileState) (o : Option FileState) → live files k ≡ o → k.number ≢ j.number → NoNew f → live (at_blob files k.place f o) j ≡ live files j
other_live k j files f None is other token = refl
other_live k j files f (Some b) is other token = other_at k j files b (f b) (k.place == j.place) refl is other (token b j.number)

unchanged : {A : Type 0} (v : Kept) (k j : Blob) (f : FileState → FileState) (r : Result A Error) → k.number ≢ j.number → NoNew f → blob_of (answered v (with_blob v k f) r) j ≡ blob_of v j
unchanged v k j f (Ok a) other token = other_live k j v.state.files f (blob_of v k) refl other token
unchanged v k j f (Err e) other token = refl

closed_token : (removed : Bool) (b : FileState) → b.removed ≡ removed → (closed b).token ≡ None
closed_token true b is = rw is refl
closed_token false b is = rw is refl

stays : (v new : Kept) (j : Blob) → blob_of new j ≡ blob_of v j → Stays memory_bytes memory_left memory_promised j v new
stays v new j same = (ap content_at same, ap left_of same, λ n l is. is)

-- no call but an open gives a token out
as_apart : (v new : Kept) → new.state.opened ≡ v.state.opened → StayApart memory_apart memory_opened v new
as_apart v new same = ((λ k j other. other), (λ k less. rw same less))

answered_opened : {A : Type 0} (v : Kept) (k : Blob) (f : FileState → FileState) (r : Result A Error) → (answered v (with_blob v k f) r).state.opened ≡ v.state.opened
answered_opened v k f (Ok a) = refl
answered_opened v k f (Err e) = refl

changed_leaves : {A : Type 0} (v new : Kept) (k : Blob) (f : FileState → FileState) (r : Result A Error) → NoNew f → new ≡ answered v (with_blob v k f) r → Leaves memory_bytes memory_left memory_promised memory_apart memory_opened k v new
changed_leaves v new k f r token is = (
  (λ j other. stays v new j (ap (λ (w : Kept). blob_of w j) is ∙ unchanged v k j f r other token)),
  as_apart v new (ap (λ (w : Kept). w.state.opened) is ∙ answered_opened v k f r),
)

pub mutated_leaves : {A : Type 0} (v new : Kept) (k : Blob) (m : Mutation) (r : Result A Error) → new ≡ answered v (with_blob v k (mutated m)) r → Leaves memory_bytes memory_left memory_promised memory_apart memory_opened k v new
mutated_leaves v new k m r is = changed_leaves v new k (mutated m) r (λ b n none. rw (mutated_parts m b (is_settled m b) refl).1 none) is

pub synced_leaves : {A : Type 0} (v new : Kept) (k : Blob) (r : Result A Error) → new ≡ answered v (after_sync v k) r → Leaves memory_bytes memory_left memory_promised memory_apart memory_opened k v new
synced_leaves v new k r is = changed_leaves v new k synced r (λ b n none. none) is

pub closed_leaves : (v new : Kept) (k : Blob) → new ≡ moved_to v (with_blob v k closed) → Leaves memory_bytes memory_left memory_promised memory_apart memory_opened k v new
closed_leaves v new k is = (
  (λ j other. stays v new j (ap (λ (w : Kept). blob_of w j) is ∙ other_live k j v.state.files closed (blob_of v k) refl other (λ b n none. rw (closed_token b.removed b refl) refl))),
  as_apart v new (ap (λ (w : Kept). w.state.opened) is),
)

-- a store that stays as it was
still : (v new : Kept) → new.state ≡ v.state → (j : Blob) → Stays memory_bytes memory_left memory_promised j v new
still v new is j = stays v new j (ap (λ (s : StoreState). live s.files j) is)

pub still_leaves : (v new : Kept) (k : Blob) → new.state ≡ v.state → Leaves memory_bytes memory_left memory_promised memory_apart memory_opened k v new
still_leaves v new k is = ((λ j other. still v new is j), as_apart v new (ap (λ (s : StoreState). s.opened) is))

pub given_up_leaves : (v new : Kept) (k : Blob) (options : WriteOptions) (r : Result Done Error) → Leaves memory_bytes memory_left memory_promised memory_apart memory_opened k v new
    → LeavesWhenGivenUp memory_bytes memory_left memory_promised memory_apart memory_opened (λ (w : Kept) (t : Ticket) (u : Kept). u ≡ w) v k options r new
given_up_leaves v new k options r leaves t after plainly is gives = rw gives (refl, leaves)

read_state : {A : Type 0} (v : Kept) (r : Result A Error) → (answered v v.state r).state ≡ v.state
read_state v (Ok a) = refl
read_state v (Err e) = refl

pub read_leaves : {A : Type 0} (v new : Kept) (r : Result A Error) → new ≡ answered v v.state r → LeavesAll memory_bytes memory_left memory_promised memory_apart memory_opened v new
read_leaves v new r is =
    let same : new.state ≡ v.state = ap (λ (w : Kept). w.state) is ∙ read_state v r in
    (still v new same, as_apart v new (ap (λ (s : StoreState). s.opened) same))

read_gives : (v new : Kept) (k : Blob) (offset len : ℕ) (r : Result WritableChunks Error) (x : List Noted) → Reads v k offset len r x → (memory_bytes new k ≡ memory_bytes v k) → KeepsRead memory_bytes v k offset len r new
read_gives v new k offset len (Ok f) x did same = (same, did.2)
read_gives v new k offset len (Err e) x did same = (same, tt)

pub read_keeps : (v new : Kept) (k : Blob) (offset len : ℕ) (r : Result WritableChunks Error) (x : List Noted) → Reads v k offset len r x → new ≡ answered v v.state r → KeepsRead memory_bytes v k offset len r new
read_keeps v new k offset len r x did is = read_gives v new k offset len r x did (still v new (ap (λ (w : Kept). w.state) is ∙ read_state v r) k).0

pub polls_keep : (v new : Kept) (t held : Ticket) → new.state ≡ v.state → held ≡ polled_ticket t → KeepsPoll memory_bytes memory_left memory_promised v t new held
polls_keep v new (Ready (Ok u)) held is at k hopes = let same = still v new is k in (same.0, rw at (same.1 ∙ (hopes ∙ ap (λ (l : List ℕ). Some l) (sym same.0))))
polls_keep v new (Ready (Err e)) held is at k hopes = ((still v new is k).0, rw at tt)
polls_keep v new (Numbered n) held is at k hopes = absurd (cc)

pub of_none : (v : Kept) (t : Ticket) → OfOne memory_promised memory_apart v t
of_none v (Ready r) = tt
of_none v (Numbered n) = λ a b l k near one two. absurd (cc)

-- Opens.

above : (n m : ℕ) → n < m → m ≢ n
above n m less same = let equal : m ≡ n = same in omega (arith, less, equal)

another : (n m : ℕ) (t : Bool) → (m == n) ≡ t → n < m → is_token n (Some m) ≡ false
another n m true is less = absurd (above n m less (eqb-true m n is))
another n m false is less = is

-- a token that is put in at a place that has none makes no other one live
token_put : (files : List FileState) (k : Blob) (n place : ℕ) (b c : FileState) (same : Bool) → (place == k.place) ≡ same → slice_get files place ≡ Some b → b.token ≡ None → c.token ≡ Some n → k.number < n
    → live (slice_set files place c) k ≡ live files k
token_put files k n place b c true at found free token less =
    let here : place ≡ k.place = eqb-true place k.place at in
    let other : is_token k.number (Some n) ≡ false = another k.number n (n == k.number) refl less in
    rw (sym here, set_here files place b c found, found, token, free, other) refl
token_put files k n place b c false at found free token less = rw (set_other files place k.place c (eqb-false place k.place at)) refl

token_made : (files : List FileState) (place number n : ℕ) (c : FileState) → c.token ≡ Some n → number < n → if_open number (slice_get (files ++ c ∷ []) place) ≡ if_open number (slice_get files place)
token_made [] zero number n c token less =
    let other : is_token number (Some n) ≡ false = another number n (n == number) refl less in
    rw (token, other) refl
token_made [] (suc i) number n c token less = refl
token_made (f ∷ fs) zero number n c token less = refl
token_made (f ∷ fs) (suc i) number n c token less = token_made fs i number n c token less

free_token : (partition name : List ℕ) (versions : BlobVersion × BlobVersion) (b : FileState) (t : Option ℕ) → b.token ≡ t → open_refusal_of partition name versions (Some b) ≡ None → t ≡ None
free_token partition name versions b None is free = refl
free_token partition name versions b (Some t) is free = absurd (let bad = rw is at free in cc)

opened_live : (s : StoreState) (partition name : List ℕ) (versions : BlobVersion × BlobVersion) (o : Option ℕ) (f : Option FileState) (k : Blob) → file_at s.files o ≡ f → open_refusal_of partition name versions f ≡ None → k.number < s.opened
    → live (opened_for s partition name versions o f).files k ≡ live s.files k
opened_live s partition name versions (Some n) (Some b) k found free less = token_put s.files k s.opened n b (with_token s.opened b) (n == k.place) refl found (free_token partition name versions b b.token refl free) refl less
opened_live s partition name versions (Some n) None k found free less = token_made s.files k.place k.number s.opened (fresh_file versions.1 s.opened) refl less
opened_live s partition name versions None f k found free less = token_made s.files k.place k.number s.opened (fresh_file versions.1 s.opened) refl less

opened_next : (s : StoreState) (partition name : List ℕ) (versions : BlobVersion × BlobVersion) (o : Option ℕ) (f : Option FileState) → (opened_for s partition name versions o f).opened ≡ s.opened + 1
opened_next s partition name versions (Some n) (Some b) = refl
opened_next s partition name versions (Some n) None = refl
opened_next s partition name versions None f = refl

unnamed_free : (yes : Bool) (o : Option Error) (e : Error) → cond yes o (Some e) ≡ None → o ≡ None
unnamed_free true o e is = is
unnamed_free false o e is = absurd (cc)

-- an open that is answered Ok gives the next token out
abbrev GivesOut : Kept → List ℕ → List ℕ → BlobVersion × BlobVersion → Blob → Type 0
GivesOut v partition name versions k = (open_refusal_of partition name versions (file_named v.state partition name) ≡ None) × (k.number ≡ v.state.opened)

gives_out : (v : Kept) (partition name : List ℕ) (versions : BlobVersion × BlobVersion) (a : Blob × ℕ × BlobVersion) (x : List Noted) → OpensVersioned v partition name versions (Ok a) x → GivesOut v partition name versions a.0
gives_out v partition name versions a x did =
    let parts : (open_refusal v.state partition name versions ≡ None) × Passes v.faults.open_rate x × IsOpened v.state partition name versions a = did in
    let made : IsOpened v.state partition name versions a = parts.2 in
    (unnamed_free (is_partition_name partition) _ _ parts.0, ap (λ (k : Blob). k.number) made.0)

opened_apart : {A : Type 0} (token : A → Blob) (v new : Kept) (partition name : List ℕ) (versions : BlobVersion × BlobVersion) (a : A) → GivesOut v partition name versions (token a) → new ≡ answered v (after_open v.state partition name versions) (Ok a)
    → OpensApart memory_bytes memory_left memory_promised memory_apart memory_opened token v (Ok a) new
opened_apart token v new partition name versions a gives is =
    let state : new.state ≡ after_open v.state partition name versions = ap (λ (w : Kept). w.state) is in
    let next : new.state.opened ≡ v.state.opened + 1 = ap (λ (s : StoreState). s.opened) state ∙ opened_next v.state partition name versions _ _ in
    let number : (token a).number ≡ v.state.opened = gives.1 in (
      (λ k less.
          let below : k.number < v.state.opened = less in
          (stays v new k (ap (λ (s : StoreState). live s.files k) state ∙ opened_live v.state partition name versions (number_of partition name v.state.directory) _ k refl gives.0 less), omega (arith, next, below))),
      (λ k j one two other. other),
      (omega (arith, next, number), (λ k less same. above k.number v.state.opened less (sym number ∙ same))),
    )

refused_apart : {A : Type 0} (token : A → Blob) (v new : Kept) (r : Result A Error) → new.state ≡ v.state → IfOk r (λ a. ⊥) → OpensApart memory_bytes memory_left memory_promised memory_apart memory_opened token v r new
refused_apart token v new (Ok a) same none = absurd none
refused_apart token v new (Err e) same none = ((λ k less. (still v new same k, rw same less)), (λ k j one two other. other), tt)

pub versioned_apart : (v new : Kept) (partition name : List ℕ) (versions : BlobVersion × BlobVersion) (r : Result (Blob × ℕ × BlobVersion) Error) (x : List Noted) → OpensVersioned v partition name versions r x → new ≡ answered v (after_open v.state partition name versions) r
    → OpensApart memory_bytes memory_left memory_promised memory_apart memory_opened (λ (a : Blob × ℕ × BlobVersion). a.0) v r new
versioned_apart v new partition name versions (Ok a) x did is = opened_apart (λ (o : Blob × ℕ × BlobVersion). o.0) v new partition name versions a (gives_out v partition name versions a x did) is
versioned_apart v new partition name versions (Err e) x did is = refused_apart (λ (o : Blob × ℕ × BlobVersion). o.0) v new (Err e) (ap (λ (w : Kept). w.state) is) tt

pub open_apart : (v new : Kept) (partition name : List ℕ) (r : Result (Blob × ℕ) Error) (x : List Noted) → Opens v partition name r x → new ≡ answered v (after_open v.state partition name default_range) r
    → OpensApart memory_bytes memory_left memory_promised memory_apart memory_opened (λ (a : Blob × ℕ). a.0) v r new
open_apart v new partition name (Ok a) x did is =
    opened_apart (λ (o : Blob × ℕ). o.0) v new partition name default_range a
    (gives_out v partition name default_range (a.0, a.1, version_for default_range (file_named v.state partition name)) x did) is
open_apart v new partition name (Err e) x did is = refused_apart (λ (o : Blob × ℕ). o.0) v new (Err e) (ap (λ (w : Kept). w.state) is) tt
