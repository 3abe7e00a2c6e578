-- A store that holds syncs back keeps the bytes of its blobs.
use Rattle.rt_buffer.proofs.Prelude.{◌≡◌, ◌∙◌, ◌<◌, ◌+◌, ◌-◌, ◌==◌, inl, inr, ℕ, Bool, true, false, ◌&&◌, cond, List, [], ◌∷◌, ◌++◌, length, slice_set, slice_get, Option, Some, None, Result, Ok, Err, IfOk, arith, refl, sym, ap, subst, and_parts, eq-eqb, eqb-true, lt-ltb, ltb-true, nat_lt, Error, ReadOptions, WriteOptions, Poll, Noted, Chunked, WritableChunks, IsPoll, IsRead, IsResize, IsSync, IsWrite, SharedBlob, Hold, Passed, Stage, AfterHold, AfterInner, AfterSync, AnswersInner, Closes, Delayed, LetsGo, OnBlob, Polls, PollsStage, Syncs, SyncsAt, SyncsOr, SyncsReleased, Writes, WritesThen, blob_at, closed_by, given, held_less, held_more, inner_blob, kept, moved, refused, stage_of, with_holder, without_holder, delayed_bytes, delayed_left, delayed_promised, bytes_in, promised_by, promised_in, has_other, stays_open, PollsTicket, written, Ghosts, Done, Now, Gated, Ticket, Ready, Numbered, KeepsRead, KeepsResize, KeepsStart, KeepsSync, KeepsWrite, Promises, SavedBy}
use Rattle.rt_base.specs.declared.poll.Poll.TheVariants as poll
use Rattle.rt_buffer.proofs.Lists.{set_here}
use Rattle.rt_buffer.specs.declared.stage.Stage.TheVariants as stage
use Rattle.rt_buffer.specs.Delayed.{Settles, Starts, plain}

pub at_end : {A : Type 0} (xs : List A) (x : A) → slice_get (xs ++ x ∷ []) (length xs) ≡ Some x
at_end [] x = refl
at_end (y ∷ ys) x = at_end ys x

-- What holds a blob.

pub holds_more : {B : Type 0} (blobs : List (Option (SharedBlob B))) (n : ℕ) (o : Option (Option (SharedBlob B))) → slice_get blobs n ≡ o → blob_at (held_more blobs n o) n ≡ blob_at blobs n
holds_more blobs n None is = refl
holds_more blobs n (Some None) is = refl
holds_more blobs n (Some (Some b)) is = rw (set_here blobs n (Some b) (Some (record b { others = b.others + 1 })) is, is) refl

holds_other : {B : Type 0} (blobs : List (Option (SharedBlob B))) (n : ℕ) (b : B) (o : Option (Option (SharedBlob B))) → slice_get blobs n ≡ o → inner_blob o ≡ Some b → has_other (slice_get (held_more blobs n o) n) ≡ true
holds_other blobs n b None is opened = absurd (cc)
holds_other blobs n b (Some None) is opened = absurd (cc)
holds_other blobs n b (Some (Some k)) is opened = rw (set_here blobs n (Some k) (Some (record k { others = k.others + 1 })) is) (lt-ltb 0 (k.others + 1) (omega arith))

above_none : (x : ℕ) (t : Bool) → (x == 0) ≡ t → nat_lt 0 x ≡ true → (x == 0) ≡ false
above_none x true is above = let none : x ≡ 0 = eqb-true x 0 is in let some : 0 < x = ltb-true 0 x above in absurd (omega (arith, none, some))
above_none x false is above = is

let_go_open : {B : Type 0} (blobs : List (Option (SharedBlob B))) (n : ℕ) (o : Option (Option (SharedBlob B))) → slice_get blobs n ≡ o → has_other o ≡ true → (closed_by o ≡ None) × (blob_at (held_less blobs n o) n ≡ blob_at blobs n)
let_go_open blobs n None is other = absurd (cc)
let_go_open blobs n (Some None) is other = absurd (cc)
let_go_open blobs n (Some (Some b)) is other =
    let last : (b.others == 0) ≡ false = above_none b.others (b.others == 0) refl other in
    rw (last, set_here blobs n (Some b) (Some (record b { others = b.others - 1 })) is, is) (refl, refl)

-- one that lets go of a blob that another one holds too leaves it open
pub lets_go_open : {S B : Type 0} (c : Ghosts S B) (n : ℕ) (blob : Option ℕ) (s t : Delayed S B) → stays_open s.blobs n blob ≡ true → LetsGo c blob s t → (t.inner ≡ s.inner) × (blob_at t.blobs n ≡ blob_at s.blobs n)
lets_go_open c n None s t opened go = rw go (refl, refl)
lets_go_open {S = S} {B = B} c n (Some m) s t opened go =
    let both = and_parts (m == n) (has_other (slice_get s.blobs n)) opened in
    let same : m ≡ n = eqb-true m n both.0 in
    let here : LetsGo c (Some n) s t = subst (λ (k : ℕ). LetsGo c (Some k) s t) same go in
    let stays = let_go_open s.blobs n (slice_get s.blobs n) refl both.1 in
    let inner : t.inner ≡ s.inner = subst (λ (b : Option B). Closes c b s.inner t.inner) stays.0 here.0 in
    let blobs : t.blobs ≡ without_holder s.blobs n = ap (λ (u : Delayed S B). u.blobs) here.1 in
    (inner, ap (λ (bs : List (Option (SharedBlob B))). blob_at bs n) blobs ∙ stays.1)

pub promised_some : {S B : Type 0} (c : Ghosts S B) (s : S) (t : Ticket) (o : Option B) (l : List ℕ) → promised_in c s t o ≡ Some l → (b : B) × (o ≡ Some b)
promised_some c s t None l is = absurd (cc)
promised_some c s t (Some b) l is = (b, refl)

pub if_some : (b : Bool) (o : Option (List ℕ)) (l : List ℕ) → cond b o None ≡ Some l → (b ≡ true) × (o ≡ Some l)
if_some true o l is = (refl, is)
if_some false o l is = absurd (cc)

pub other_open : {B : Type 0} (o : Option (Option (SharedBlob B))) → has_other o ≡ true → (b : B) × (inner_blob o ≡ Some b)
other_open None other = absurd (cc)
other_open (Some None) other = absurd (cc)
other_open (Some (Some b)) other = (b.inner, refl)

given_some : (k : ℕ) (low : Done) → (d : Done) × (given k (Ok low) ≡ Ok d)
given_some k Now = (Now, refl)
given_some k (Gated (Ready a)) = (Gated (Ready a), refl)
given_some k (Gated (Numbered m)) = (Gated (Numbered k), refl)

and_off : (b : Bool) → (b && false) ≡ false
and_off true = refl
and_off false = refl

pub plain_off : (options : WriteOptions) → (plain options).sync ≡ false
plain_off options = and_off options.sync

-- the ticket behind a poll
abbrev pub after : ℕ → Poll (Result Unit Error) → Ticket
after k poll.Pending = Numbered k
after k (poll.Ready r) = Ready r

settled_at : (k : ℕ) (q p : Poll (Result Unit Error)) (held : Ticket) → Settles (Numbered k) q p held → held ≡ after k q
settled_at k poll.Pending p held did = did.1
settled_at k (poll.Ready r) p held did = did.1

same_number : (k m : ℕ) (low : Poll (Result Unit Error)) → PollsTicket (Numbered k) low (Numbered m) → m ≡ k
same_number k m poll.Pending is = cc
same_number k m (poll.Ready a) is = absurd (let bad = is.1 in cc)

module _ {S B : Type 0} (c : Ghosts S B) where
  abbrev Hopes : Delayed S B → Ticket → ℕ → Type 0
  Hopes t u n = Promises (delayed_bytes c) (delayed_left c) (delayed_promised c) t u n

  abbrev Saved : Delayed S B → Done → ℕ → Type 0
  Saved t d n = SavedBy (delayed_bytes c) (delayed_left c) (delayed_promised c) t d n

  ready_hopes : (n : ℕ) (b : B) (r : Result Unit Error) (t : Delayed S B) → blob_at t.blobs n ≡ Some b → Promises c.bytes c.left c.promised t.inner (Ready r) b → Hopes t (Ready r) n
  ready_hopes n b (Ok u) t opened hopes = rw opened hopes
  ready_hopes n b (Err e) t opened hopes = tt

  -- an answer of the inner store that is passed on
  passed_saved : (n : ℕ) (b : B) (tickets : List Stage) (t : Delayed S B) (low d : Done) → blob_at t.blobs n ≡ Some b → t.tickets ≡ kept tickets (Ok low) → given (length tickets) (Ok low) ≡ Ok d → SavedBy c.bytes c.left c.promised t.inner low b → Saved t d n
  passed_saved n b tickets t Now d opened at is saved =
      let same : d ≡ Now = cc in
      rw (same, opened) saved
  passed_saved n b tickets t (Gated (Ready a)) d opened at is saved =
      let same : d ≡ Gated (Ready a) = cc in
      rw same (ready_hopes n b a t opened saved)
  passed_saved n b tickets t (Gated (Numbered m)) d opened at is saved =
      let same : d ≡ Gated (Numbered (length tickets)) = cc in
      rw (same, at, at_end tickets (stage.Passed (record { number = m; blob = None; counts = false })), opened) saved

  passes_saved : (n : ℕ) (b : B) (tickets : List Stage) (t : Delayed S B) (low r : Result Done Error) → blob_at t.blobs n ≡ Some b → t.tickets ≡ kept tickets low → r ≡ given (length tickets) low → IfOk low (λ e. SavedBy c.bytes c.left c.promised t.inner e b) → IfOk r (λ d. Saved t d n)
  passes_saved n b tickets t (Ok low) r opened at is saved =
      let some = given_some (length tickets) low in
      rw (is, some.1) (passed_saved n b tickets t low some.0 opened at some.1 saved)
  passes_saved n b tickets t (Err e) r opened at is saved = rw is tt

  -- a ticket that holds the blob
  held_saved : (n : ℕ) (b : B) (h : Hold) (blobs : List (Option (SharedBlob B))) (tickets : List Stage) (t : Delayed S B)
      → blob_at blobs n ≡ Some b → t.blobs ≡ with_holder blobs n → t.tickets ≡ tickets ++ stage.Held h ∷ [] → h.blob ≡ n → Hopes t (Numbered (length tickets)) n
  held_saved n b h blobs tickets t opened holds at of =
      let other : has_other (slice_get t.blobs n) ≡ true = subst (λ (bs : List (Option (SharedBlob B))). has_other (slice_get bs n) ≡ true) (sym holds) (holds_other blobs n b (slice_get blobs n) refl opened) in
      let here : (n == n) ≡ true = eq-eqb n n refl in
      rw (at, at_end tickets (stage.Held h), of, here, other) refl

  -- Syncs.

  abbrev KeepsAt : ℕ → List ℕ → Result Done Error → Delayed S B → Type 0
  KeepsAt n content r t = (delayed_bytes c t n ≡ content) × IfOk r (λ d. Saved t d n)

  at_keeps : (n : ℕ) (b : B) (gate : Option ℕ) (s : Delayed S B) (r : Result Done Error) (t : Delayed S B) (x : List Noted) → blob_at s.blobs n ≡ Some b → SyncsAt c n b gate s r t x → KeepsAt n (c.bytes s.inner b) r t
  at_keeps n b None s r t x opened did =
      let same : t.blobs ≡ s.blobs = ap (λ (u : Delayed S B). u.blobs) did.3 in
      let syncs = did.1 in
      (rw (same, opened) syncs.1.0, passes_saved n b s.tickets t did.0 r (rw same opened) (ap (λ (u : Delayed S B). u.tickets) did.3) did.2 syncs.1.1)
  at_keeps n b (Some gate) s r t x opened did =
      let inner : t.inner ≡ s.inner = ap (λ (u : Delayed S B). u.inner) did.1 in
      let holds : t.blobs ≡ with_holder s.blobs n = ap (λ (u : Delayed S B). u.blobs) did.1 in (
        rw (inner, holds, holds_more s.blobs n (slice_get s.blobs n) refl, opened) refl,
        rw did.0 (held_saved n b (record { blob = n; hold = Some gate; counts = false }) s.blobs s.tickets t opened holds (ap (λ (u : Delayed S B). u.tickets) did.1) refl),
      )

  or_keeps : (n : ℕ) (b : B) (s : Delayed S B) (r : Result Done Error) (t : Delayed S B) (x : List Noted) → blob_at s.blobs n ≡ Some b → SyncsOr c n b s r t x → KeepsAt n (c.bytes s.inner b) r t
  or_keeps n b s r t x opened (inl did) = at_keeps n b _ s r t x opened did
  or_keeps n b s r t x opened (inr did) = (rw (did.1, opened) refl, rw did.0 tt)

  pub syncs_keep : (n : ℕ) (o : Option B) (s : Delayed S B) (r : Result Done Error) (t : Delayed S B) (x : List Noted) → blob_at s.blobs n ≡ o → Syncs c n o s r t x → KeepsSync (delayed_bytes c) (delayed_left c) (delayed_promised c) s n r t
  syncs_keep n None s r t x opened did = (rw did.1 refl, rw did.0 tt)
  syncs_keep n (Some b) s r t x opened did = let keeps = or_keeps n b s r t x opened did in (keeps.0 ∙ rw opened refl, keeps.1)

  pub starts_keep : (n : ℕ) (o : Option B) (s : Delayed S B) (r : Result Ticket Error) (t : Delayed S B) (x : List Noted) → blob_at s.blobs n ≡ o → Starts n o s r t x → KeepsStart (delayed_bytes c) (delayed_left c) (delayed_promised c) s n r t
  starts_keep n None s r t x opened did = rw did.0 tt
  starts_keep n (Some b) s (Ok ticket) t x opened did =
      let inner : t.inner ≡ s.inner = ap (λ (u : Delayed S B). u.inner) did.1 in
      let holds : t.blobs ≡ with_holder s.blobs n = ap (λ (u : Delayed S B). u.blobs) did.1 in (
        rw (inner, holds, holds_more s.blobs n (slice_get s.blobs n) refl) refl,
        rw did.0 (held_saved n b _ s.blobs s.tickets t opened holds (ap (λ (u : Delayed S B). u.tickets) did.1) refl),
      )
  starts_keep n (Some b) s (Err e) t x opened did = tt

  -- Writes.

  abbrev WritesIn : ℕ → List ℕ → Result Done Error → Delayed S B → Type 0
  WritesIn n content r t = IfOk r (λ d. (delayed_bytes c t n ≡ content) × Saved t d n)

  written_in : (n : ℕ) (content last : List ℕ) (r : Result Done Error) (t : Delayed S B) → KeepsAt n content r t → content ≡ last → WritesIn n last r t
  written_in n content last (Ok d) t keeps same = (keeps.0 ∙ same, keeps.1)
  written_in n content last (Err e) t keeps same = tt

  then_keeps : (n : ℕ) (b : B) (at : ℕ) (w : Chunked) (options : WriteOptions) (low : Result Done Error) (s : Delayed S B) (mid : S) (y : List Noted) (r : Result Done Error) (t : Delayed S B) (z : List Noted)
      → blob_at s.blobs n ≡ Some b → options.sync ≡ false → IsWrite c s.inner b at w options low mid y → WritesThen c n b low (moved s mid) r t z → WritesIn n (written at w.bytes (c.bytes s.inner b)) r t
  then_keeps n b at w options (Err e) s mid y r t z opened plainly writes did = rw did.0 tt
  then_keeps n b at w options (Ok Now) s mid y r t z opened plainly writes did = written_in n (c.bytes mid b) _ r t (at_keeps n b _ (moved s mid) r t z opened did) writes.1.0
  then_keeps n b at w options (Ok (Gated k)) s mid y r t z opened plainly writes did =
      written_in n (c.bytes did.0 b) _ r t (at_keeps n b _ (moved s did.0) r t z opened did.2) ((writes.2 k did.0 plainly refl did.1.0).0 ∙ writes.1.0)

  passes_written : (n : ℕ) (b : B) (at : ℕ) (w : Chunked) (options : WriteOptions) (low : Result Done Error) (s : Delayed S B) (r : Result Done Error) (t : Delayed S B) (x : List Noted)
      → blob_at s.blobs n ≡ Some b → IsWrite c s.inner b at w options low t.inner x → r ≡ given (length s.tickets) low → t.blobs ≡ s.blobs → t.tickets ≡ kept s.tickets low
      → KeepsWrite (delayed_bytes c) (delayed_left c) (delayed_promised c) s n at w options r t
  passes_written n b at w options (Ok low) s r t x opened writes is same at_tickets =
      let some = given_some (length s.tickets) low in
      rw (is, some.1) (
        rw (same, opened) writes.1.0,
        λ durably durable. passed_saved n b s.tickets t low some.0 (rw same opened) at_tickets some.1 (writes.1.1 durably (rw opened at durable)),
      )
  passes_written n b at w options (Err e) s r t x opened writes is same at_tickets = rw is tt

  saves_write : (n : ℕ) (b : B) (at : ℕ) (w : Chunked) (options : WriteOptions) (s : Delayed S B) (r : Result Done Error) (t : Delayed S B)
      → blob_at s.blobs n ≡ Some b → WritesIn n (written at w.bytes (c.bytes s.inner b)) r t → KeepsWrite (delayed_bytes c) (delayed_left c) (delayed_promised c) s n at w options r t
  saves_write n b at w options s (Ok d) t opened wrote = (wrote.0 ∙ rw opened refl, λ durably durable. wrote.1)
  saves_write n b at w options s (Err e) t opened wrote = tt

  pub writes_keep : (n : ℕ) (o : Option B) (is_held : Bool) (at : ℕ) (w : Chunked) (options : WriteOptions) (s : Delayed S B) (r : Result Done Error) (t : Delayed S B) (x : List Noted)
      → blob_at s.blobs n ≡ o → Writes c n o is_held at w options s r t x → KeepsWrite (delayed_bytes c) (delayed_left c) (delayed_promised c) s n at w options r t
  writes_keep n None is_held at w options s r t x opened did = rw did.0 tt
  writes_keep n (Some b) is_held at w options s r t x opened (inr did) = rw did.0 tt
  writes_keep n (Some b) false at w options s r t x opened (inl did) =
      passes_written n b at w options did.0 s r t x opened did.1 did.2 (ap (λ (u : Delayed S B). u.blobs) did.3) (ap (λ (u : Delayed S B). u.tickets) did.3)
  writes_keep n (Some b) true at w options s r t x opened (inl did) =
      saves_write n b at w options s r t opened (then_keeps n b at w (plain options) did.0 s did.1 did.2 r t did.3 opened (plain_off options) did.4 did.5)

  -- Polls: the blob has the same bytes, and the ticket keeps its promise.

  abbrev Came : List ℕ → ℕ → ℕ → Poll (Result Unit Error) → Delayed S B → Type 0
  Came content n k q t = (delayed_bytes c t n ≡ content) × Hopes t (after k q) n

  answers_came : (n : ℕ) (b : B) (k : ℕ) (blob : Option ℕ) (counts : Bool) (r : Result Unit Error) (s : Delayed S B) (q : Poll (Result Unit Error)) (t : Delayed S B)
      → blob_at s.blobs n ≡ Some b → stays_open s.blobs n blob ≡ true → Promises c.bytes c.left c.promised s.inner (Ready r) b → AnswersInner c k blob counts r s q t → Came (c.bytes s.inner b) n k q t
  answers_came n b k blob counts r s q t opened stays hopes did =
      let fin = lets_go_open c n blob _ t stays did.1 in
      let there : blob_at t.blobs n ≡ Some b = fin.1 ∙ opened in
      (rw (fin.0, fin.1, opened) refl, rw did.0 (ready_hopes n b r t there (subst (λ (v : S). Promises c.bytes c.left c.promised v (Ready r) b) (sym fin.0) hopes)))

  after_inner : (n : ℕ) (b : B) (k task : ℕ) (p : Passed) (low : Poll (Result Unit Error)) (mid : S) (u : Ticket) (s : Delayed S B) (q : Poll (Result Unit Error)) (t : Delayed S B) (x : List Noted)
      → blob_at s.blobs n ≡ Some b → stays_open s.blobs n p.blob ≡ true → slice_get s.tickets k ≡ Some (stage.Passed p) → Promises c.bytes c.left c.promised s.inner (Numbered p.number) b
      → IsPoll c s.inner (Numbered p.number) task low mid u x → PollsTicket (Numbered p.number) low u → AfterInner c k p u (moved s mid) q t → Came (c.bytes s.inner b) n k q t
  after_inner n b k task p low mid (Numbered m) s q t x opened stays found hopes polls ticket did =
      let kept = polls.1 b hopes in
      let there : Promises c.bytes c.left c.promised mid (Numbered p.number) b = subst (λ (i : ℕ). Promises c.bytes c.left c.promised mid (Numbered i) b) (same_number p.number m low ticket) kept.1 in
      (rw (did.1, opened) kept.0, rw did.0 (rw (did.1, found, stays, opened) there))
  after_inner n b k task p low mid (Ready r) s q t x opened stays found hopes polls ticket did =
      let kept = polls.1 b hopes in
      let came = answers_came n b k p.blob p.counts r (moved s mid) q t opened stays kept.1 did in
      (came.0 ∙ kept.0, came.1)

  after_sync : (n : ℕ) (b : B) (k task : ℕ) (h : Hold) (low : Result Done Error) (mid : S) (y : List Noted) (s : Delayed S B) (q : Poll (Result Unit Error)) (t : Delayed S B) (z : List Noted)
      → blob_at s.blobs n ≡ Some b → stays_open s.blobs n (Some h.blob) ≡ true → slice_get s.tickets k ≡ Some (stage.Held h) → IsSync c s.inner b low mid y → AfterSync c k task h low (moved s mid) q t z → Came (c.bytes s.inner b) n k q t
  after_sync n b k task h (Err e) mid y s q t z opened stays found syncs did =
      let came = answers_came n b k (Some h.blob) h.counts (Err e) (moved s mid) q t opened stays tt (did.0, did.1) in
      (came.0 ∙ syncs.1.0, came.1)
  after_sync n b k task h (Ok Now) mid y s q t z opened stays found syncs did =
      let came = answers_came n b k (Some h.blob) h.counts (Ok tt) (moved s mid) q t opened stays syncs.1.1 (did.0, did.1) in
      (came.0 ∙ syncs.1.0, came.1)
  after_sync n b k task h (Ok (Gated (Ready r))) mid y s q t z opened stays found syncs did =
      let came = answers_came n b k (Some h.blob) h.counts r (moved s mid) q t opened stays syncs.1.1 did.0 in
      (came.0 ∙ syncs.1.0, came.1)
  after_sync n b k task h (Ok (Gated (Numbered m))) mid y s q t z opened stays found syncs did =
      let p : Passed = record { number = m; blob = Some h.blob; counts = h.counts } in
      let came = after_inner n b k task p did.0 did.1 did.2 (record (moved s mid) { tickets = slice_set s.tickets k (stage.Passed p) }) q t z opened stays
      (set_here s.tickets k (stage.Held h) (stage.Passed p) found) syncs.1.1 did.3 did.4 did.5 in
      (came.0 ∙ syncs.1.0, came.1)

  after_hold : (n : ℕ) (b : B) (k task : ℕ) (h : Hold) (a : Poll (Result Unit Error)) (s : Delayed S B) (q : Poll (Result Unit Error)) (t : Delayed S B) (x : List Noted)
      → blob_at s.blobs n ≡ Some b → stays_open s.blobs n (Some h.blob) ≡ true → slice_get s.tickets k ≡ Some (stage.Held h) → AfterHold c k task h a s q t x → Came (c.bytes s.inner b) n k q t
  after_hold n b k task h poll.Pending s q t x opened stays found did = (rw (did.1, opened) refl, rw did.0 (rw (did.1, found, stays) refl))
  after_hold n b k task h (poll.Ready (Err e)) s q t x opened stays found did = answers_came n b k (Some h.blob) h.counts (Err e) (refused s) q t opened stays tt (did.0, did.1)
  after_hold n b k task h (poll.Ready (Ok u)) s q t x opened stays found did =
      let same : h.blob ≡ n = eqb-true h.blob n (and_parts (h.blob == n) (has_other (slice_get s.blobs n)) stays).0 in
      let there : blob_at s.blobs h.blob ≡ Some b = ap (λ (m : ℕ). blob_at s.blobs m) same ∙ opened in
      let on : SyncsReleased c k task h (Some b) s q t x = subst (λ (o : Option B). SyncsReleased c k task h o s q t x) there did in
      after_sync n b k task h on.0 on.1 on.2 s q t on.3 opened stays found on.4 on.5

  bytes_there : (s : S) (o : Option B) (b : B) → o ≡ Some b → c.bytes s b ≡ bytes_in c s o
  bytes_there s o b is = rw is refl

  stage_came : (n k task : ℕ) (o : Option Stage) (s : Delayed S B) (q : Poll (Result Unit Error)) (t : Delayed S B) (x : List Noted)
      → slice_get s.tickets k ≡ o → promised_by c s n (stage_of o) ≡ Some (delayed_bytes c s n) → PollsStage c k task o s q t x → Came (delayed_bytes c s n) n k q t
  stage_came n k task None s q t x found hopes did = absurd (cc)
  stage_came n k task (Some stage.Out) s q t x found hopes did = absurd (cc)
  stage_came n k task (Some (stage.Held h)) s q t x found hopes did =
      let stays = (if_some (stays_open s.blobs n (Some h.blob)) _ _ hopes).0 in
      let f = other_open (slice_get s.blobs n) (and_parts (h.blob == n) (has_other (slice_get s.blobs n)) stays).1 in
      let came = after_hold n f.0 k task h _ _ q t x f.1 stays found did in
      (came.0 ∙ bytes_there s.inner (blob_at s.blobs n) f.0 f.1, came.1)
  stage_came n k task (Some (stage.Passed p)) s q t x found hopes did =
      let parts = if_some (stays_open s.blobs n p.blob) _ _ hopes in
      let f = promised_some c s.inner (Numbered p.number) (blob_at s.blobs n) _ parts.1 in
      let came = after_inner n f.0 k task p did.0 did.1 did.2 s q t x f.1 parts.0 found (rw f.1 at parts.1) did.3 did.4 did.5 in
      (came.0 ∙ bytes_there s.inner (blob_at s.blobs n) f.0 f.1, came.1)

  pub polls_keep : (u : Ticket) (n task : ℕ) (s : Delayed S B) (p : Poll (Result Unit Error)) (t : Delayed S B) (held : Ticket) (x : List Noted) → Polls c task u s p t held x → Hopes s u n → (delayed_bytes c t n ≡ delayed_bytes c s n) × Hopes t held n
  polls_keep (Ready r) n task s p t held x did hopes = (rw did.1 refl, rw (did.1, did.0.1) hopes)
  polls_keep (Numbered k) n task s p t held x did hopes =
      let came = stage_came n k task (slice_get s.tickets k) s did.0 t x refl hopes did.1 in
      (came.0, rw (settled_at k did.0 p held did.2) came.1)

  -- The rest.

  pub resizes_keep : (n : ℕ) (o : Option B) (len : ℕ) (s : Delayed S B) (r : Result Unit Error) (t : Delayed S B) (x : List Noted) → blob_at s.blobs n ≡ o → OnBlob (λ (b : B). IsResize c s.inner b len) o s r t x → KeepsResize (delayed_bytes c) s n len r t
  resizes_keep n None len s r t x opened did = rw did.0 tt
  resizes_keep n (Some b) len s (Ok u) t x opened did =
      let same : t.blobs ≡ s.blobs = ap (λ (v : Delayed S B). v.blobs) did.1 in
      rw (same, opened) did.0.1
  resizes_keep n (Some b) len s (Err e) t x opened did = tt

  pub reads_keep : (n : ℕ) (o : Option B) (offset len : ℕ) (options : ReadOptions) (s : Delayed S B) (r : Result WritableChunks Error) (t : Delayed S B) (x : List Noted)
      → blob_at s.blobs n ≡ o → OnBlob (λ (b : B). IsRead c s.inner b offset len options) o s r t x → KeepsRead (delayed_bytes c) s n offset len r t
  reads_keep n None offset len options s r t x opened did = (rw did.1 refl, rw did.0 tt)
  reads_keep n (Some b) offset len options s r t x opened did =
      let same : t.blobs ≡ s.blobs = ap (λ (v : Delayed S B). v.blobs) did.1 in
      let reads = did.0 in
      (rw (same, opened) reads.1.0, rw opened reads.1.1)
