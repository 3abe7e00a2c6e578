-- A call on a blob of a store that holds syncs back leaves the others as they were.
use Rattle.rt_buffer.proofs.Prelude.{◌≡◌, ◌≢◌, ◌∙◌, ◌==◌, ◌<◌, ◌+◌, ◌-◌, arith, inl, inr, ℕ, zero, suc, Bool, true, false, ◌&&◌, cond, List, [], ◌∷◌, ◌++◌, length, slice_set, slice_get, Option, Some, None, Result, Ok, Err, refl, sym, ap, subst, and_parts, eqb-false, eqb-true, Error, ReadOptions, WriteOptions, Poll, Noted, Chunked, WritableChunks, IsGivenUp, IsPoll, IsRead, IsResize, IsSync, IsWrite, Left, SharedBlob, Hold, Passed, Stage, AfterHold, AfterInner, AfterSync, Closes, Delayed, GivesUp, GivesUpStage, LetsGo, OnBlob, Opens, Polls, PollsStage, Syncs, SyncsAt, SyncsReleased, Writes, WritesThen, blob_at, closed_by, given, held_less, held_more, inner_blob, kept, moved, refused, stage_of, with_blob, with_holder, without_holder, without_ticket, bytes_in, delayed_apart, delayed_bytes, delayed_left, delayed_opened, delayed_promised, has_other, left_in, promised_by, promised_in, stays_open, Ghosts, Done, Now, Gated, Ticket, Ready, Numbered, IsOf, Leaves, LeavesAll, LeavesWhenGivenUp, OfOne, OpensApart, StayApart, Stays}
use Rattle.rt_base.specs.declared.poll.Poll.TheVariants as poll
use Rattle.rt_buffer.proofs.DelayedKept.{at_end, holds_more, if_some, lets_go_open, other_open, plain_off, promised_some}
use Rattle.rt_buffer.proofs.Lists.{set_here, set_other}
use Rattle.rt_buffer.specs.declared.stage.Stage.TheVariants as stage
use Rattle.rt_buffer.specs.Delayed.{Starts, plain}

-- What stands at other numbers.

more_other : {B : Type 0} (blobs : List (Option (SharedBlob B))) (n m : ℕ) (o : Option (Option (SharedBlob B))) → n ≢ m → slice_get (held_more blobs n o) m ≡ slice_get blobs m
more_other blobs n m None other = refl
more_other blobs n m (Some None) other = refl
more_other blobs n m (Some (Some b)) other = set_other blobs n m _ other

less_other : {B : Type 0} (blobs : List (Option (SharedBlob B))) (n m : ℕ) (o : Option (Option (SharedBlob B))) → n ≢ m → slice_get (held_less blobs n o) m ≡ slice_get blobs m
less_other blobs n m None other = refl
less_other blobs n m (Some None) other = refl
less_other blobs n m (Some (Some b)) other = set_other blobs n m _ other

set_length : {A : Type 0} (xs : List A) (i : ℕ) (x : A) → length (slice_set xs i x) ≡ length xs
set_length [] i x = refl
set_length (y ∷ ys) zero x = refl
set_length {A = A} (y ∷ ys) (suc i) x = let rest : length (slice_set ys i x) ≡ length ys = set_length ys i x in omega (arith, rest)

more_length : {B : Type 0} (blobs : List (Option (SharedBlob B))) (n : ℕ) (o : Option (Option (SharedBlob B))) → length (held_more blobs n o) ≡ length blobs
more_length blobs n None = refl
more_length blobs n (Some None) = refl
more_length blobs n (Some (Some b)) = set_length blobs n _

less_length : {B : Type 0} (blobs : List (Option (SharedBlob B))) (n : ℕ) (o : Option (Option (SharedBlob B))) → length (held_less blobs n o) ≡ length blobs
less_length blobs n None = refl
less_length blobs n (Some None) = refl
less_length blobs n (Some (Some b)) = set_length blobs n _

before_new : {A : Type 0} (xs : List A) (x : A) (n : ℕ) → n < length xs → slice_get (xs ++ x ∷ []) n ≡ slice_get xs n
before_new [] x n below = absurd (omega (arith, below))
before_new (y ∷ ys) x zero below = refl
before_new (y ∷ ys) x (suc n) below = before_new ys x n (omega (arith, below))

end_length : {A : Type 0} (xs : List A) (x : A) → length (xs ++ x ∷ []) ≡ length xs + 1
end_length [] x = refl
end_length (y ∷ ys) x = let rest : length (ys ++ x ∷ []) ≡ length ys + 1 = end_length ys x in omega (arith, rest)

before_end : (ks : List Stage) (g : Stage) (k : ℕ) (f : Stage) → slice_get ks k ≡ Some f → slice_get (ks ++ g ∷ []) k ≡ Some f
before_end [] g k f is = absurd (cc)
before_end (x ∷ xs) g zero f is = is
before_end (x ∷ xs) g (suc k) f is = before_end xs g k f is

end_changed : (ks : List Stage) (g new : Stage) (k : ℕ) (f : Stage) → slice_get ks k ≡ Some f → slice_get (slice_set (ks ++ g ∷ []) (length ks) new) k ≡ Some f
end_changed [] g new k f is = absurd (cc)
end_changed (x ∷ xs) g new zero f is = is
end_changed (x ∷ xs) g new (suc k) f is = end_changed xs g new k f is

kept_before : (ks : List Stage) (low : Result Done Error) (k : ℕ) (f : Stage) → slice_get ks k ≡ Some f → slice_get (kept ks low) k ≡ Some f
kept_before ks (Ok Now) k f is = is
kept_before ks (Ok (Gated (Ready r))) k f is = is
kept_before ks (Ok (Gated (Numbered m))) k f is = before_end ks _ k f is
kept_before ks (Err e) k f is = is

kept_other : (ks : List Stage) (k j : ℕ) (same : Bool) (f g new : Stage) → (k == j) ≡ same → slice_get ks k ≡ Some f → slice_get ks j ≡ Some g → (f ≡ g → ⊥) → slice_get (slice_set ks k new) j ≡ Some g
kept_other ks k j true f g new at found is other =
    let here : slice_get ks j ≡ Some f = subst (λ (i : ℕ). slice_get ks i ≡ Some f) (eqb-true k j at) found in
    absurd (other cc)
kept_other ks k j false f g new at found is other = set_other ks k j new (eqb-false k j at) ∙ is

open_same : {B : Type 0} (old new : List (Option (SharedBlob B))) (m : ℕ) (p : Option ℕ) → slice_get new m ≡ slice_get old m → stays_open new m p ≡ stays_open old m p
open_same old new m None same = refl
open_same old new m (Some q) same = rw same refl

last_inner : {B : Type 0} (k : SharedBlob B) (last : Bool) (b : B) → cond last (Some k.inner) None ≡ Some b → Some k.inner ≡ Some b
last_inner k true b is = is
last_inner k false b is = absurd (cc)

left_inner : {B : Type 0} (blobs : List (Option (SharedBlob B))) (n : ℕ) (b : SharedBlob B) (a : B) (last : Bool) → slice_get blobs n ≡ Some (Some b) → (b.others == 0) ≡ last → blob_at (held_less blobs n (Some (Some b))) n ≡ Some a → blob_at blobs n ≡ Some a
left_inner blobs n b a true found last is =
    let gone : blob_at (held_less blobs n (Some (Some b))) n ≡ None = rw (last, set_here blobs n (Some b) None found) refl in
    absurd (cc)
left_inner blobs n b a false found last is =
    let here : blob_at (held_less blobs n (Some (Some b))) n ≡ Some b.inner = rw (last, set_here blobs n (Some b) (Some (record b { others = b.others - 1 })) found) refl in
    ap inner_blob found ∙ (sym here ∙ is)

closed_inner : {B : Type 0} (o : Option (Option (SharedBlob B))) (b : B) → closed_by o ≡ Some b → inner_blob o ≡ Some b
closed_inner None b is = absurd (cc)
closed_inner (Some None) b is = absurd (cc)
closed_inner (Some (Some k)) b is = last_inner k (k.others == 0) b is

still_open : {B : Type 0} (blobs : List (Option (SharedBlob B))) (n : ℕ) (o : Option (Option (SharedBlob B))) (a : B) → slice_get blobs n ≡ o → blob_at (held_less blobs n o) n ≡ Some a → blob_at blobs n ≡ Some a
still_open blobs n None a found is = is
still_open blobs n (Some None) a found is = is
still_open blobs n (Some (Some b)) a found is = left_inner blobs n b a (b.others == 0) found refl is

module _ {S B : Type 0} (c : Ghosts S B) where
  abbrev StaysIn : B → S → S → Type 0
  StaysIn b s new = Stays c.bytes c.left c.promised b s new

  abbrev Far : ℕ → ℕ → Delayed S B → Type 0
  Far n m s = delayed_apart c s n m

  -- as many numbers were given out, and each other one has what it had
  abbrev SameAt : ℕ → Delayed S B → Delayed S B → Type 0
  SameAt n s t = (length t.blobs ≡ length s.blobs) × ((m : ℕ) → n ≢ m → slice_get t.blobs m ≡ slice_get s.blobs m)

  same_blobs : (n : ℕ) (s t : Delayed S B) → t.blobs ≡ s.blobs → SameAt n s t
  same_blobs n s t blobs = (ap (λ (bs : List (Option (SharedBlob B))). length bs) blobs, (λ m other. ap (λ (bs : List (Option (SharedBlob B))). slice_get bs m) blobs))

  less_same : (n : ℕ) (o : Option (Option (SharedBlob B))) (s t : Delayed S B) → t.blobs ≡ held_less s.blobs n o → SameAt n s t
  less_same n o s t blobs = (
    ap (λ (bs : List (Option (SharedBlob B))). length bs) blobs ∙ less_length s.blobs n o,
    (λ m other. ap (λ (bs : List (Option (SharedBlob B))). slice_get bs m) blobs ∙ less_other s.blobs n m o other),
  )

  -- one that lets go of a blob that another one holds too leaves all else
  lets_leaves : (n : ℕ) (blob : Option ℕ) (s t : Delayed S B) → stays_open s.blobs n blob ≡ true → LetsGo c blob s t
      → (t.inner ≡ s.inner) × SameAt n s t × (blob_at t.blobs n ≡ blob_at s.blobs n) × (t.tickets ≡ s.tickets)
  lets_leaves n None s t stays go = rw go (refl, (refl, (λ m other. refl)), refl, refl)
  lets_leaves n (Some q) s t stays go =
      let both = and_parts (q == n) (has_other (slice_get s.blobs n)) stays in
      let here : LetsGo c (Some n) s t = subst (λ (k : ℕ). LetsGo c (Some k) s t) (eqb-true q n both.0) go in
      let still = lets_go_open c n (Some q) s t stays go in
      let blobs : t.blobs ≡ without_holder s.blobs n = ap (λ (u : Delayed S B). u.blobs) here.1 in (
        still.0,
        less_same n (slice_get s.blobs n) s t blobs,
        still.1,
        ap (λ (u : Delayed S B). u.tickets) here.1,
      )

  -- What a blob keeps where its inner blob stays.

  in_bytes : (o : Option B) (s new : S) → ((y : B) → o ≡ Some y → StaysIn y s new) → bytes_in c new o ≡ bytes_in c s o
  in_bytes None s new stays = refl
  in_bytes (Some y) s new stays = (stays y refl).0

  in_left : (o : Option B) (s new : S) → ((y : B) → o ≡ Some y → StaysIn y s new) → left_in c new o ≡ left_in c s o
  in_left None s new stays = refl
  in_left (Some y) s new stays = (stays y refl).1

  in_promised : (o : Option B) (s new : S) (i : ℕ) (l : List ℕ) → ((y : B) → o ≡ Some y → StaysIn y s new) → promised_in c s (Numbered i) o ≡ Some l → promised_in c new (Numbered i) o ≡ Some l
  in_promised None s new i l stays is = is
  in_promised (Some y) s new i l stays is = (stays y refl).2 i l is

  stage_promises : (m : ℕ) (g : Stage) (s t : Delayed S B) (l : List ℕ) → slice_get t.blobs m ≡ slice_get s.blobs m → ((y : B) → blob_at s.blobs m ≡ Some y → StaysIn y s.inner t.inner)
      → promised_by c s m g ≡ Some l → promised_by c t m g ≡ Some l
  stage_promises m stage.Out s t l same stays is = is
  stage_promises m (stage.Held h) s t l same stays is = rw (same, in_bytes (blob_at s.blobs m) s.inner t.inner stays) is
  stage_promises m (stage.Passed p) s t l same stays is =
      let parts = if_some (stays_open s.blobs m p.blob) _ l is in
      rw (open_same s.blobs t.blobs m p.blob same, parts.0, same) (in_promised (blob_at s.blobs m) s.inner t.inner p.number l stays parts.1)

  numbered_promises : (m k : ℕ) (o : Option Stage) (s t : Delayed S B) (l : List ℕ) → slice_get s.tickets k ≡ o → slice_get t.blobs m ≡ slice_get s.blobs m → ((y : B) → blob_at s.blobs m ≡ Some y → StaysIn y s.inner t.inner)
      → ((f : Stage) → slice_get s.tickets k ≡ Some f → promised_by c s m f ≡ Some l → slice_get t.tickets k ≡ Some f)
      → promised_by c s m (stage_of o) ≡ Some l → promised_by c t m (stage_of (slice_get t.tickets k)) ≡ Some l
  numbered_promises m k None s t l found same stays keeps is = absurd (cc)
  numbered_promises m k (Some f) s t l found same stays keeps is = rw (keeps f found is) (stage_promises m f s t l same stays is)

  not_held : (h : Hold) (n m : ℕ) (s : Delayed S B) (l : List ℕ) → stays_open s.blobs n (Some h.blob) ≡ true → n ≢ m → promised_by c s m (stage.Held h) ≡ Some l → ⊥
  not_held h n m s l opened other is =
      let here = (and_parts (h.blob == n) (has_other (slice_get s.blobs n)) opened).0 in
      let there = (and_parts (h.blob == m) (has_other (slice_get s.blobs m)) (if_some (stays_open s.blobs m (Some h.blob)) _ l is).0).0 in
      other (sym (eqb-true h.blob n here) ∙ eqb-true h.blob m there)

  not_passed : (p : Passed) (n m : ℕ) (b : B) (l : List ℕ) (s : Delayed S B) (k : List ℕ) → OfOne c.promised c.apart s.inner (Numbered p.number) → blob_at s.blobs n ≡ Some b → c.promised s.inner (Numbered p.number) b ≡ Some l → Far n m s
      → promised_by c s m (stage.Passed p) ≡ Some k → ⊥
  not_passed p n m b l s k one opened hopes away is =
      let there : promised_in c s.inner (Numbered p.number) (blob_at s.blobs m) ≡ Some k = (if_some (stays_open s.blobs m p.blob) _ k is).1 in
      let f = promised_some c s.inner (Numbered p.number) (blob_at s.blobs m) k there in
      one b f.0 l k (away.1 b f.0 opened f.1) hopes (rw f.1 at there)

  -- Steps.

  stays_at : (m : ℕ) (s t : Delayed S B) → slice_get t.blobs m ≡ slice_get s.blobs m → ((y : B) → blob_at s.blobs m ≡ Some y → StaysIn y s.inner t.inner)
      → ((k : ℕ) (f : Stage) (l : List ℕ) → slice_get s.tickets k ≡ Some f → promised_by c s m f ≡ Some l → slice_get t.tickets k ≡ Some f)
      → Stays (delayed_bytes c) (delayed_left c) (delayed_promised c) m s t
  stays_at m s t same stays keeps =
      let there : blob_at t.blobs m ≡ blob_at s.blobs m = ap inner_blob same in
      (rw there (in_bytes (blob_at s.blobs m) s.inner t.inner stays), rw there (in_left (blob_at s.blobs m) s.inner t.inner stays), λ k l is. numbered_promises m k (slice_get s.tickets k) s t l refl same stays (λ f found hopes. keeps k f l found hopes) is)

  -- each number has the inner blob that it had, or none any more, and those stay apart
  abbrev Tokens : Delayed S B → Delayed S B → Type 0
  Tokens s t = (length t.blobs ≡ length s.blobs) × ((i : ℕ) (a : B) → blob_at t.blobs i ≡ Some a → blob_at s.blobs i ≡ Some a) × StayApart c.apart c.opened s.inner t.inner

  open_after : (n : ℕ) (s t : Delayed S B) → Tokens s t → delayed_opened c s n → delayed_opened c t n
  open_after n s t tokens are =
      let long : length t.blobs ≡ length s.blobs = tokens.0 in
      let below : n < length s.blobs = are.0 in
      (omega (arith, long, below), λ b found. let stay = tokens.2 in stay.1 b (are.1 b (tokens.1 n b found)))

  far_after : (s t : Delayed S B) → Tokens s t → StayApart (delayed_apart c) (delayed_opened c) s t
  far_after s t tokens = (
    (λ n m away. (away.0, λ a b at_n at_m. let stay = tokens.2 in stay.0 a b (away.1 a b (tokens.1 n a at_n) (tokens.1 m b at_m)))),
    (λ n are. open_after n s t tokens are),
  )

  abbrev DelayedLeaves : ℕ → Delayed S B → Delayed S B → Type 0
  DelayedLeaves n s t = Leaves (delayed_bytes c) (delayed_left c) (delayed_promised c) (delayed_apart c) (delayed_opened c) n s t

  leaves_then : (n : ℕ) (s mid t : Delayed S B) → DelayedLeaves n s mid → DelayedLeaves n mid t → DelayedLeaves n s t
  leaves_then n s mid t first second =
      let f = first.1 in
      let g = second.1 in (
        (λ m away.
            let one = first.0 m away in
            let two = second.0 m (f.0 n m away) in
            (two.0 ∙ one.0, two.1 ∙ one.1, λ k l is. two.2 k l (one.2 k l is))),
        ((λ i m away. g.0 i m (f.0 i m away)), (λ m are. g.1 m (f.1 m are))),
      )

  -- the tickets that promise something of the other numbers are kept
  abbrev KeepsTickets : ℕ → Delayed S B → Delayed S B → Type 0
  KeepsTickets n s t = (m k : ℕ) (f : Stage) (l : List ℕ) → Far n m s → slice_get s.tickets k ≡ Some f → promised_by c s m f ≡ Some l → slice_get t.tickets k ≡ Some f

  step_leaves : (n : ℕ) (s t : Delayed S B) → Tokens s t → SameAt n s t → ((m : ℕ) (y : B) → Far n m s → blob_at s.blobs m ≡ Some y → StaysIn y s.inner t.inner) → KeepsTickets n s t → DelayedLeaves n s t
  step_leaves n s t tokens same stays keeps = ((λ m away. stays_at m s t (same.1 m away.0) (λ y found. stays m y away found) (λ k f l found hopes. keeps m k f l away found hopes)), far_after s t tokens)

  at_number : (n i : ℕ) (here : Bool) (a : B) (s t : Delayed S B) → (n == i) ≡ here → SameAt n s t → (blob_at t.blobs n ≡ Some a → blob_at s.blobs n ≡ Some a) → blob_at t.blobs i ≡ Some a → blob_at s.blobs i ≡ Some a
  at_number n i true a s t is same back found = let there : n ≡ i = eqb-true n i is in subst (λ (j : ℕ). blob_at s.blobs j ≡ Some a) there (back (subst (λ (j : ℕ). blob_at t.blobs j ≡ Some a) (sym there) found))
  at_number n i false a s t is same back found = ap inner_blob (sym (same.1 i (eqb-false n i is))) ∙ found

  only_at : (n : ℕ) (s t : Delayed S B) → SameAt n s t → ((a : B) → blob_at t.blobs n ≡ Some a → blob_at s.blobs n ≡ Some a) → (i : ℕ) (a : B) → blob_at t.blobs i ≡ Some a → blob_at s.blobs i ≡ Some a
  only_at n s t same back i a found = at_number n i (n == i) a s t refl same (back a) found

  -- a step that changes its own parts alone
  own_leaves : (n : ℕ) (s t : Delayed S B) → t.inner ≡ s.inner → SameAt n s t → ((a : B) → blob_at t.blobs n ≡ Some a → blob_at s.blobs n ≡ Some a) → KeepsTickets n s t → DelayedLeaves n s t
  own_leaves n s t inner same back keeps =
      step_leaves n s t (same.0, only_at n s t same back, ((λ a b near. rw inner near), (λ b are. rw inner are))) same (λ m y away found. subst (λ (v : S). StaysIn y s.inner v) (sym inner) (refl, refl, λ k l is. is)) keeps

  still_leaves : (n : ℕ) (s t : Delayed S B) → t.inner ≡ s.inner → t.blobs ≡ s.blobs → t.tickets ≡ s.tickets → DelayedLeaves n s t
  still_leaves n s t inner blobs tickets =
      own_leaves n s t inner (same_blobs n s t blobs)
      (λ a found. subst (λ (bs : List (Option (SharedBlob B))). blob_at bs n ≡ Some a) blobs found)
      (λ m k f l away found is. subst (λ (ks : List Stage). slice_get ks k ≡ Some f) (sym tickets) found)

  same_leaves : (n : ℕ) (s t : Delayed S B) → t ≡ s → DelayedLeaves n s t
  same_leaves n s t is = still_leaves n s t (ap (λ (u : Delayed S B). u.inner) is) (ap (λ (u : Delayed S B). u.blobs) is) (ap (λ (u : Delayed S B). u.tickets) is)

  refused_leaves : (n : ℕ) (s t : Delayed S B) → t ≡ refused s → DelayedLeaves n s t
  refused_leaves n s t is = still_leaves n s t (ap (λ (u : Delayed S B). u.inner) is) (ap (λ (u : Delayed S B). u.blobs) is) (ap (λ (u : Delayed S B). u.tickets) is)

  -- a step of the inner store on the inner blob
  inner_leaves : (n : ℕ) (b : B) (s t : Delayed S B) → blob_at s.blobs n ≡ Some b → SameAt n s t → blob_at t.blobs n ≡ Some b → Left c b s.inner t.inner → KeepsTickets n s t → DelayedLeaves n s t
  inner_leaves n b s t opened same still inner keeps =
      step_leaves n s t (same.0, only_at n s t same (λ a found. opened ∙ (sym still ∙ found)), inner.1) same (λ m y away found. inner.0 y (away.1 b y opened found)) keeps

  passes_leaves : (n : ℕ) (b : B) (low : Result Done Error) (s t : Delayed S B) → blob_at s.blobs n ≡ Some b → t.blobs ≡ s.blobs → t.tickets ≡ kept s.tickets low → Left c b s.inner t.inner → DelayedLeaves n s t
  passes_leaves n b low s t opened blobs tickets inner =
      inner_leaves n b s t opened (same_blobs n s t blobs) (ap (λ (bs : List (Option (SharedBlob B))). blob_at bs n) blobs ∙ opened) inner
      (λ m k f l away found is. subst (λ (ks : List Stage). slice_get ks k ≡ Some f) (sym tickets) (kept_before s.tickets low k f found))

  moved_leaves : (n : ℕ) (b : B) (s : Delayed S B) (mid : S) → blob_at s.blobs n ≡ Some b → Left c b s.inner mid → DelayedLeaves n s (moved s mid)
  moved_leaves n b s mid opened inner = passes_leaves n b (Ok Now) s (moved s mid) opened refl refl inner

  held_leaves : (n : ℕ) (h : Hold) (s t : Delayed S B) → t.inner ≡ s.inner → t.blobs ≡ with_holder s.blobs n → t.tickets ≡ s.tickets ++ stage.Held h ∷ [] → DelayedLeaves n s t
  held_leaves n h s t inner blobs tickets =
      let still : blob_at t.blobs n ≡ blob_at s.blobs n = ap (λ (bs : List (Option (SharedBlob B))). blob_at bs n) blobs ∙ holds_more s.blobs n (slice_get s.blobs n) refl in
      own_leaves n s t inner (
        ap (λ (bs : List (Option (SharedBlob B))). length bs) blobs ∙ more_length s.blobs n (slice_get s.blobs n),
        (λ m other. ap (λ (bs : List (Option (SharedBlob B))). slice_get bs m) blobs ∙ more_other s.blobs n m (slice_get s.blobs n) other),
      ) (λ a found. sym still ∙ found)
      (λ m k f l away found is. subst (λ (ks : List Stage). slice_get ks k ≡ Some f) (sym tickets) (before_end s.tickets (stage.Held h) k f found))

  -- Calls on a token.

  at_leaves : (n : ℕ) (b : B) (gate : Option ℕ) (s : Delayed S B) (r : Result Done Error) (t : Delayed S B) (x : List Noted) → blob_at s.blobs n ≡ Some b → SyncsAt c n b gate s r t x → DelayedLeaves n s t
  at_leaves n b None s r t x opened did =
      let syncs = did.1 in
      passes_leaves n b did.0 s t opened (ap (λ (u : Delayed S B). u.blobs) did.3) (ap (λ (u : Delayed S B). u.tickets) did.3) syncs.2
  at_leaves n b (Some gate) s r t x opened did =
      held_leaves n (record { blob = n; hold = Some gate; counts = false }) s t (ap (λ (u : Delayed S B). u.inner) did.1) (ap (λ (u : Delayed S B). u.blobs) did.1) (ap (λ (u : Delayed S B). u.tickets) did.1)

  pub syncs_leave : (n : ℕ) (o : Option B) (s : Delayed S B) (r : Result Done Error) (t : Delayed S B) (x : List Noted) → blob_at s.blobs n ≡ o → Syncs c n o s r t x → DelayedLeaves n s t
  syncs_leave n None s r t x opened did = refused_leaves n s t did.1
  syncs_leave n (Some b) s r t x opened (inl did) = at_leaves n b _ s r t x opened did
  syncs_leave n (Some b) s r t x opened (inr did) = same_leaves n s t did.1

  pub starts_leave : (n : ℕ) (o : Option B) (s : Delayed S B) (r : Result Ticket Error) (t : Delayed S B) (x : List Noted) → blob_at s.blobs n ≡ o → Starts n o s r t x → DelayedLeaves n s t
  starts_leave n None s r t x opened did = refused_leaves n s t did.1
  starts_leave n (Some b) s (Ok u) t x opened did = held_leaves n _ s t (ap (λ (u : Delayed S B). u.inner) did.1) (ap (λ (u : Delayed S B). u.blobs) did.1) (ap (λ (u : Delayed S B). u.tickets) did.1)
  starts_leave n (Some b) s (Err e) t x opened did = same_leaves n s t did.1

  pub resizes_leave : (n : ℕ) (o : Option B) (len : ℕ) (s : Delayed S B) (r : Result Unit Error) (t : Delayed S B) (x : List Noted) → blob_at s.blobs n ≡ o → OnBlob (λ (b : B). IsResize c s.inner b len) o s r t x → DelayedLeaves n s t
  resizes_leave n None len s r t x opened did = refused_leaves n s t did.1
  resizes_leave n (Some b) len s r t x opened did = passes_leaves n b (Ok Now) s t opened (ap (λ (u : Delayed S B). u.blobs) did.1) (ap (λ (u : Delayed S B). u.tickets) did.1) did.0.2

  pub reads_leave : (o : Option B) (offset len : ℕ) (options : ReadOptions) (s : Delayed S B) (r : Result WritableChunks Error) (t : Delayed S B) (x : List Noted) → OnBlob (λ (b : B). IsRead c s.inner b offset len options) o s r t x
      → LeavesAll (delayed_bytes c) (delayed_left c) (delayed_promised c) (delayed_apart c) (delayed_opened c) s t
  reads_leave None offset len options s r t x did = rw did.1 ((λ m. (refl, refl, λ k l is. is)), ((λ n m away. away), (λ n are. are)))
  reads_leave (Some b) offset len options s r t x did =
      let all = did.0.2 in (
        (λ m. stays_at m s t (ap (λ (u : Delayed S B). slice_get u.blobs m) did.1) (λ y found. all.0 y) (λ k f l found hopes. subst (λ (ks : List Stage). slice_get ks k ≡ Some f) (sym (ap (λ (u : Delayed S B). u.tickets) did.1)) found)),
        far_after s t (ap (λ (u : Delayed S B). length u.blobs) did.1, (λ i a found. ap (λ (u : Delayed S B). blob_at u.blobs i) (sym did.1) ∙ found), all.1),
      )

  then_leaves : (n : ℕ) (b : B) (at : ℕ) (w : Chunked) (options : WriteOptions) (low : Result Done Error) (s : Delayed S B) (mid : S) (y : List Noted) (r : Result Done Error) (t : Delayed S B) (z : List Noted)
      → blob_at s.blobs n ≡ Some b → options.sync ≡ false → IsWrite c s.inner b at w options low mid y → WritesThen c n b low (moved s mid) r t z → DelayedLeaves n s t
  then_leaves n b at w options (Err e) s mid y r t z opened plainly writes did = leaves_then n s (moved s mid) t (moved_leaves n b s mid opened writes.3) (same_leaves n (moved s mid) t did.1)
  then_leaves n b at w options (Ok Now) s mid y r t z opened plainly writes did = leaves_then n s (moved s mid) t (moved_leaves n b s mid opened writes.3) (at_leaves n b _ (moved s mid) r t z opened did)
  then_leaves n b at w options (Ok (Gated k)) s mid y r t z opened plainly writes did =
      leaves_then n s (moved s did.0) t (moved_leaves n b s did.0 opened (writes.2 k did.0 plainly refl did.1.0).1) (at_leaves n b _ (moved s did.0) r t z opened did.2)

  pub writes_leave : (n : ℕ) (o : Option B) (is_held : Bool) (at : ℕ) (w : Chunked) (options : WriteOptions) (s : Delayed S B) (r : Result Done Error) (t : Delayed S B) (x : List Noted)
      → blob_at s.blobs n ≡ o → Writes c n o is_held at w options s r t x → DelayedLeaves n s t
  writes_leave n None is_held at w options s r t x opened did = refused_leaves n s t did.1
  writes_leave n (Some b) is_held at w options s r t x opened (inr did) = same_leaves n s t did.1
  writes_leave n (Some b) false at w options s r t x opened (inl did) =
      let writes = did.1 in
      passes_leaves n b did.0 s t opened (ap (λ (u : Delayed S B). u.blobs) did.3) (ap (λ (u : Delayed S B). u.tickets) did.3) writes.3
  writes_leave n (Some b) true at w options s r t x opened (inl did) =
      then_leaves n b at w (plain options) did.0 s did.1 did.2 r t did.3 opened (plain_off options) did.4 did.5

  -- A write that needn't be durable, whose ticket is given up.

  abbrev GivenUp : ℕ → Delayed S B → Delayed S B → Delayed S B → Type 0
  GivenUp n s mid new = (delayed_bytes c new n ≡ delayed_bytes c mid n) × DelayedLeaves n s new

  given_out : (n : ℕ) (b : B) (p : Passed) (s mid : Delayed S B) (after : S) (new : Delayed S B) → blob_at s.blobs n ≡ Some b → mid.blobs ≡ s.blobs → mid.tickets ≡ s.tickets ++ stage.Passed p ∷ []
      → new ≡ without_ticket (length s.tickets) (moved mid after) → (c.bytes after b ≡ c.bytes mid.inner b) × Left c b s.inner after → GivenUp n s mid new
  given_out n b p s mid after new opened blobs tickets is inner =
      let there : new.blobs ≡ s.blobs = ap (λ (u : Delayed S B). u.blobs) is ∙ blobs in
      let at : new.tickets ≡ slice_set (s.tickets ++ stage.Passed p ∷ []) (length s.tickets) stage.Out = ap (λ (u : Delayed S B). u.tickets) is ∙ ap (λ (ks : List Stage). slice_set ks (length s.tickets) stage.Out) tickets in (
        rw (is, blobs, opened) inner.0,
        inner_leaves n b s new opened (same_blobs n s new there) (ap (λ (bs : List (Option (SharedBlob B))). blob_at bs n) there ∙ opened)
            (subst (λ (v : S). Left c b s.inner v) (sym (ap (λ (u : Delayed S B). u.inner) is)) inner.1)
            (λ m j f l away at_j hopes. subst (λ (ks : List Stage). slice_get ks j ≡ Some f) (sym at) (end_changed s.tickets (stage.Passed p) stage.Out j f at_j)),
      )

  passed_given_up : (n : ℕ) (b : B) (at : ℕ) (w : Chunked) (options : WriteOptions) (low : Result Done Error) (s : Delayed S B) (t : Ticket) (mid : Delayed S B) (x : List Noted) (new : Delayed S B)
      → blob_at s.blobs n ≡ Some b → options.sync ≡ false → IsWrite c s.inner b at w options low mid.inner x → Ok (Gated t) ≡ given (length s.tickets) low → mid ≡ record s { inner = mid.inner; tickets = kept s.tickets low } → GivesUp c t mid new
      → GivenUp n s mid new
  passed_given_up n b at w options (Err e) s t mid x new opened plainly writes is made gives = absurd (cc)
  passed_given_up n b at w options (Ok Now) s t mid x new opened plainly writes is made gives = absurd (cc)
  passed_given_up n b at w options (Ok (Gated (Ready a))) s t mid x new opened plainly writes is made gives =
      let same : t ≡ Ready a = cc in
      let here : GivesUp c (Ready a) mid new = rw same at gives in
      let first = passes_leaves n b (Ok (Gated (Ready a))) s mid opened (ap (λ (u : Delayed S B). u.blobs) made) (ap (λ (u : Delayed S B). u.tickets) made) writes.3 in
      (rw here refl, leaves_then n s mid new first (same_leaves n mid new here))
  passed_given_up n b at w options (Ok (Gated (Numbered k))) s t mid x new opened plainly writes is made gives =
      let same : t ≡ Numbered (length s.tickets) = cc in
      let p : Passed = record { number = k; blob = None; counts = false } in
      let found : slice_get mid.tickets (length s.tickets) ≡ Some (stage.Passed p) = ap (λ (u : Delayed S B). slice_get u.tickets (length s.tickets)) made ∙ at_end s.tickets (stage.Passed p) in
      let here : (after : S) × IsGivenUp c mid.inner (Numbered k) after × (new ≡ without_ticket (length s.tickets) (moved mid after)) = rw (same, found) at gives in
      given_out n b p s mid here.0 new opened (ap (λ (u : Delayed S B). u.blobs) made) (ap (λ (u : Delayed S B). u.tickets) made) here.2 (writes.2 (Numbered k) here.0 plainly refl here.1.0)

  free : (syncs armed held : Bool) → syncs ≡ false → held ≡ (syncs && armed) → held ≡ false
  free syncs armed held off is = is ∙ ap (λ (b : Bool). b && armed) off

  writes_given_up : (n : ℕ) (o : Option B) (is_held : Bool) (at : ℕ) (w : Chunked) (options : WriteOptions) (s : Delayed S B) (t : Ticket) (mid : Delayed S B) (x : List Noted) (new : Delayed S B)
      → blob_at s.blobs n ≡ o → is_held ≡ false → options.sync ≡ false → Writes c n o is_held at w options s (Ok (Gated t)) mid x → GivesUp c t mid new → GivenUp n s mid new
  writes_given_up n None is_held at w options s t mid x new opened held plainly did gives = absurd (let is = did.0 in cc)
  writes_given_up n (Some b) is_held at w options s t mid x new opened held plainly (inr did) gives = absurd (let is = did.0 in cc)
  writes_given_up n (Some b) true at w options s t mid x new opened held plainly (inl did) gives = absurd (cc)
  writes_given_up n (Some b) false at w options s t mid x new opened held plainly (inl did) gives = passed_given_up n b at w options did.0 s t mid x new opened plainly did.1 did.2 did.3 gives

  pub writes_let_go : (n : ℕ) (o : Option B) (is_held armed : Bool) (at : ℕ) (w : Chunked) (options : WriteOptions) (s : Delayed S B) (r : Result Done Error) (mid : Delayed S B) (x : List Noted)
      → blob_at s.blobs n ≡ o → is_held ≡ (options.sync && armed) → Writes c n o is_held at w options s r mid x
      → LeavesWhenGivenUp (delayed_bytes c) (delayed_left c) (delayed_promised c) (delayed_apart c) (delayed_opened c) (λ (v : Delayed S B) (t : Ticket) (u : Delayed S B). GivesUp c t v u) s n options r mid
  writes_let_go n o is_held armed at w options s r mid x opened held did t new plainly is gives =
      writes_given_up n o is_held at w options s t mid x new opened (free options.sync armed is_held plainly held) plainly (rw is at did) gives

  -- the last one that holds the blob closes it
  closes : (n : ℕ) (o : Option (Option (SharedBlob B))) (z : Option B) (s t : Delayed S B) → slice_get s.blobs n ≡ o → closed_by o ≡ z → Closes c z s.inner t.inner → t ≡ record s { inner = t.inner; blobs = held_less s.blobs n o } → DelayedLeaves n s t
  closes n o None s t found is closed did =
      own_leaves n s t closed (less_same n o s t (ap (λ (u : Delayed S B). u.blobs) did))
      (λ a here. still_open s.blobs n o a found (ap (λ (u : Delayed S B). blob_at u.blobs n) (sym did) ∙ here))
      (λ m k f l away at_k hopes. subst (λ (ks : List Stage). slice_get ks k ≡ Some f) (sym (ap (λ (u : Delayed S B). u.tickets) did)) at_k)
  closes n o (Some b) s t found is closed did =
      let opened : blob_at s.blobs n ≡ Some b = ap inner_blob found ∙ closed_inner o b is in
      let inner = closed.1 in
      let same : SameAt n s t = less_same n o s t (ap (λ (u : Delayed S B). u.blobs) did) in
      step_leaves n s t
      (same.0, only_at n s t same (λ a here. still_open s.blobs n o a found (ap (λ (u : Delayed S B). blob_at u.blobs n) (sym did) ∙ here)), inner.1) same
      (λ m y away here. inner.0 y (away.1 b y opened here))
      (λ m k f l away at_k hopes. subst (λ (ks : List Stage). slice_get ks k ≡ Some f) (sym (ap (λ (u : Delayed S B). u.tickets) did)) at_k)

  pub closes_leave : (n : ℕ) (s t : Delayed S B) → LetsGo c (Some n) s t → DelayedLeaves n s t
  closes_leave n s t did = closes n (slice_get s.blobs n) _ s t refl refl did.0 did.1

  -- Polls, and ends of tickets.

  -- a ticket of another blob ends
  ends_leaves : (n : ℕ) (b : B) (k : ℕ) (f : Stage) (blob : Option ℕ) (s base t : Delayed S B) → blob_at s.blobs n ≡ Some b → slice_get s.tickets k ≡ Some f → ((m : ℕ) (l : List ℕ) → Far n m s → promised_by c s m f ≡ Some l → ⊥)
      → stays_open s.blobs n blob ≡ true → base.blobs ≡ s.blobs → base.tickets ≡ slice_set s.tickets k stage.Out → LetsGo c blob base t → Left c b s.inner base.inner → DelayedLeaves n s t
  ends_leaves n b k f blob s base t opened found none stays blobs tickets go inner =
      let stays_there : stays_open base.blobs n blob ≡ true = open_same s.blobs base.blobs n blob (ap (λ (bs : List (Option (SharedBlob B))). slice_get bs n) blobs) ∙ stays in
      let gone = lets_leaves n blob base t stays_there go in
      let at : t.tickets ≡ slice_set s.tickets k stage.Out = gone.3 ∙ tickets in
      let same : SameAt n base t = gone.1 in
      inner_leaves n b s t opened
      (same.0 ∙ ap (λ (bs : List (Option (SharedBlob B))). length bs) blobs, (λ m other. same.1 m other ∙ ap (λ (bs : List (Option (SharedBlob B))). slice_get bs m) blobs)) (gone.2 ∙ (ap (λ (bs : List (Option (SharedBlob B))). blob_at bs n) blobs ∙ opened))
      (subst (λ (v : S). Left c b s.inner v) (sym gone.0) inner)
      (λ m j g l away at_j hopes. subst (λ (ks : List Stage). slice_get ks j ≡ Some g) (sym at)
      (kept_other s.tickets k j (k == j) f g stage.Out refl found at_j (λ same. none m l away (subst (λ (e : Stage). promised_by c s m e ≡ Some l) (sym same) hopes))))

  same_inner : (b : B) (s : S) → Left c b s s
  same_inner b s = ((λ y near. (refl, refl, λ k l is. is)), ((λ a e near. near), (λ a are. are)))

  after_inner : (n : ℕ) (b : B) (l : List ℕ) (k task : ℕ) (p : Passed) (low : Poll (Result Unit Error)) (mid : S) (u : Ticket) (s : Delayed S B) (q : Poll (Result Unit Error)) (t : Delayed S B) (x : List Noted)
      → blob_at s.blobs n ≡ Some b → stays_open s.blobs n p.blob ≡ true → slice_get s.tickets k ≡ Some (stage.Passed p) → c.promised s.inner (Numbered p.number) b ≡ Some l
      → IsPoll c s.inner (Numbered p.number) task low mid u x → AfterInner c k p u (moved s mid) q t → DelayedLeaves n s t
  after_inner n b l k task p low mid (Numbered i) s q t x opened stays found hopes polls did =
      leaves_then n s (moved s mid) t (moved_leaves n b s mid opened (polls.3 b (l, hopes))) (same_leaves n (moved s mid) t did.1)
  after_inner n b l k task p low mid (Ready r) s q t x opened stays found hopes polls did =
      ends_leaves n b k (stage.Passed p) p.blob s _ t opened found (λ m h away is. not_passed p n m b l s h polls.2 opened hopes away is) stays refl refl did.1 (polls.3 b (l, hopes))

  after_sync : (n : ℕ) (b : B) (k task : ℕ) (h : Hold) (low : Result Done Error) (mid : S) (y : List Noted) (s : Delayed S B) (q : Poll (Result Unit Error)) (t : Delayed S B) (z : List Noted)
      → blob_at s.blobs n ≡ Some b → stays_open s.blobs n (Some h.blob) ≡ true → slice_get s.tickets k ≡ Some (stage.Held h) → IsSync c s.inner b low mid y → AfterSync c k task h low (moved s mid) q t z → DelayedLeaves n s t
  after_sync n b k task h (Err e) mid y s q t z opened stays found syncs did =
      ends_leaves n b k (stage.Held h) (Some h.blob) s _ t opened found (λ m l away is. not_held h n m s l stays away.0 is) stays refl refl did.1 syncs.2
  after_sync n b k task h (Ok Now) mid y s q t z opened stays found syncs did =
      ends_leaves n b k (stage.Held h) (Some h.blob) s _ t opened found (λ m l away is. not_held h n m s l stays away.0 is) stays refl refl did.1 syncs.2
  after_sync n b k task h (Ok (Gated (Ready r))) mid y s q t z opened stays found syncs did =
      ends_leaves n b k (stage.Held h) (Some h.blob) s _ t opened found (λ m l away is. not_held h n m s l stays away.0 is) stays refl refl did.0.1 syncs.2
  after_sync n b k task h (Ok (Gated (Numbered i))) mid y s q t z opened stays found syncs did =
      let p : Passed = record { number = i; blob = Some h.blob; counts = h.counts } in
      let next : Delayed S B = record (moved s mid) { tickets = slice_set s.tickets k (stage.Passed p) } in
      let first = inner_leaves n b s next opened (refl, (λ m other. refl)) opened syncs.2
      (λ m j g l away at_j hopes. kept_other s.tickets k j (k == j) (stage.Held h) g (stage.Passed p) refl found at_j (λ same. not_held h n m s l stays away.0 (subst (λ (e : Stage). promised_by c s m e ≡ Some l) (sym same) hopes))) in
      leaves_then n s next t first (after_inner n b (c.bytes mid b) k task p did.0 did.1 did.2 next q t z opened stays (set_here s.tickets k (stage.Held h) (stage.Passed p) found) syncs.1.1 did.3 did.5)

  after_hold : (n : ℕ) (b : B) (k task : ℕ) (h : Hold) (a : Poll (Result Unit Error)) (s : Delayed S B) (q : Poll (Result Unit Error)) (t : Delayed S B) (x : List Noted)
      → blob_at s.blobs n ≡ Some b → stays_open s.blobs n (Some h.blob) ≡ true → slice_get s.tickets k ≡ Some (stage.Held h) → AfterHold c k task h a s q t x → DelayedLeaves n s t
  after_hold n b k task h poll.Pending s q t x opened stays found did = same_leaves n s t did.1
  after_hold n b k task h (poll.Ready (Err e)) s q t x opened stays found did =
      ends_leaves n b k (stage.Held h) (Some h.blob) s _ t opened found (λ m l away is. not_held h n m s l stays away.0 is) stays refl refl did.1 (same_inner b s.inner)
  after_hold n b k task h (poll.Ready (Ok u)) s q t x opened stays found did =
      let same : h.blob ≡ n = eqb-true h.blob n (and_parts (h.blob == n) (has_other (slice_get s.blobs n)) stays).0 in
      let there : blob_at s.blobs h.blob ≡ Some b = ap (λ (i : ℕ). blob_at s.blobs i) same ∙ opened in
      let on : SyncsReleased c k task h (Some b) s q t x = subst (λ (o : Option B). SyncsReleased c k task h o s q t x) there did in
      after_sync n b k task h on.0 on.1 on.2 s q t on.3 opened stays found on.4 on.5

  stage_leaves : (n k task : ℕ) (l : List ℕ) (o : Option Stage) (s : Delayed S B) (q : Poll (Result Unit Error)) (t : Delayed S B) (x : List Noted)
      → slice_get s.tickets k ≡ o → promised_by c s n (stage_of o) ≡ Some l → PollsStage c k task o s q t x → DelayedLeaves n s t
  stage_leaves n k task l None s q t x found hopes did = absurd (cc)
  stage_leaves n k task l (Some stage.Out) s q t x found hopes did = absurd (cc)
  stage_leaves n k task l (Some (stage.Held h)) s q t x found hopes did =
      let stays = (if_some (stays_open s.blobs n (Some h.blob)) _ l hopes).0 in
      let f = other_open (slice_get s.blobs n) (and_parts (h.blob == n) (has_other (slice_get s.blobs n)) stays).1 in
      after_hold n f.0 k task h _ _ q t x f.1 stays found did
  stage_leaves n k task l (Some (stage.Passed p)) s q t x found hopes did =
      let parts = if_some (stays_open s.blobs n p.blob) _ l hopes in
      let f = promised_some c s.inner (Numbered p.number) (blob_at s.blobs n) l parts.1 in
      after_inner n f.0 l k task p did.0 did.1 did.2 s q t x f.1 parts.0 found (rw f.1 at parts.1) did.3 did.5

  pub polls_leave : (n : ℕ) (u : Ticket) (task : ℕ) (s : Delayed S B) (p : Poll (Result Unit Error)) (t : Delayed S B) (held : Ticket) (x : List Noted) → Polls c task u s p t held x → IsOf (delayed_promised c) s u n → DelayedLeaves n s t
  polls_leave n (Ready r) task s p t held x did hopes = same_leaves n s t did.1
  polls_leave n (Numbered k) task s p t held x did hopes = stage_leaves n k task hopes.0 (slice_get s.tickets k) s did.0 t x refl hopes.1 did.1

  ended : (n k : ℕ) (l : List ℕ) (o : Option Stage) (s t : Delayed S B) → slice_get s.tickets k ≡ o → promised_by c s n (stage_of o) ≡ Some l → GivesUpStage c k o s t → DelayedLeaves n s t
  ended n k l None s t found hopes did = absurd (cc)
  ended n k l (Some stage.Out) s t found hopes did = absurd (cc)
  ended n k l (Some (stage.Held h)) s t found hopes did =
      let stays = (if_some (stays_open s.blobs n (Some h.blob)) _ l hopes).0 in
      let f = other_open (slice_get s.blobs n) (and_parts (h.blob == n) (has_other (slice_get s.blobs n)) stays).1 in
      ends_leaves n f.0 k (stage.Held h) (Some h.blob) s _ t f.1 found (λ m j away is. not_held h n m s j stays away.0 is) stays refl refl did (same_inner f.0 s.inner)
  ended n k l (Some (stage.Passed p)) s t found hopes did =
      let parts = if_some (stays_open s.blobs n p.blob) _ l hopes in
      let f = promised_some c s.inner (Numbered p.number) (blob_at s.blobs n) l parts.1 in
      let there : c.promised s.inner (Numbered p.number) f.0 ≡ Some l = rw f.1 at parts.1 in
      let ends = did.1 in
      ends_leaves n f.0 k (stage.Passed p) p.blob s _ t f.1 found (λ m j away is. not_passed p n m f.0 l s j ends.1 f.1 there away is) parts.0 refl refl did.2 (ends.2 f.0 (l, there))

  pub ends_leave : (n : ℕ) (u : Ticket) (s t : Delayed S B) → GivesUp c u s t → IsOf (delayed_promised c) s u n → DelayedLeaves n s t
  ends_leave n (Ready r) s t did hopes = same_leaves n s t did
  ends_leave n (Numbered k) s t did hopes = ended n k hopes.0 (slice_get s.tickets k) s t refl hopes.1 did

  -- A ticket is of one blob.

  one_stage : (g : Stage) (s : Delayed S B) → ((p : Passed) → g ≡ stage.Passed p → OfOne c.promised c.apart s.inner (Numbered p.number)) → (n m : ℕ) (l k : List ℕ) → Far n m s → promised_by c s n g ≡ Some l → promised_by c s m g ≡ Some k → ⊥
  one_stage stage.Out s inner n m l k away one two = cc
  one_stage (stage.Held h) s inner n m l k away one two = not_held h n m s k (if_some (stays_open s.blobs n (Some h.blob)) _ l one).0 away.0 two
  one_stage (stage.Passed p) s inner n m l k away one two =
      let here : promised_in c s.inner (Numbered p.number) (blob_at s.blobs n) ≡ Some l = (if_some (stays_open s.blobs n p.blob) _ l one).1 in
      let f = promised_some c s.inner (Numbered p.number) (blob_at s.blobs n) l here in
      not_passed p n m f.0 l s k (inner p refl) f.1 (rw f.1 at here) away two

  same_passed : (p q : Passed) (s : S) → stage.Passed p ≡ stage.Passed q → OfOne c.promised c.apart s (Numbered p.number) → OfOne c.promised c.apart s (Numbered q.number)
  same_passed p q s is one = let same : p ≡ q = cc in subst (λ (e : Passed). OfOne c.promised c.apart s (Numbered e.number)) same one

  polled_one : (k task : ℕ) (o : Option Stage) (s : Delayed S B) (q : Poll (Result Unit Error)) (t : Delayed S B) (x : List Noted) → PollsStage c k task o s q t x → (p : Passed) → stage_of o ≡ stage.Passed p → OfOne c.promised c.apart s.inner (Numbered p.number)
  polled_one k task None s q t x did p is = absurd (cc)
  polled_one k task (Some stage.Out) s q t x did p is = absurd (cc)
  polled_one k task (Some (stage.Held h)) s q t x did p is = absurd (cc)
  polled_one k task (Some (stage.Passed e)) s q t x did p is = let polls = did.3 in same_passed e p s.inner is polls.2

  pub polls_one : (u : Ticket) (task : ℕ) (s : Delayed S B) (p : Poll (Result Unit Error)) (t : Delayed S B) (held : Ticket) (x : List Noted) → Polls c task u s p t held x → OfOne (delayed_promised c) (delayed_apart c) s u
  polls_one (Ready r) task s p t held x did = tt
  polls_one (Numbered k) task s p t held x did = λ n m l j away one two. one_stage (stage_of (slice_get s.tickets k)) s (polled_one k task (slice_get s.tickets k) s did.0 t x did.1) n m l j away one two

  ended_one : (k : ℕ) (o : Option Stage) (s t : Delayed S B) → GivesUpStage c k o s t → (p : Passed) → stage_of o ≡ stage.Passed p → OfOne c.promised c.apart s.inner (Numbered p.number)
  ended_one k None s t did p is = absurd (cc)
  ended_one k (Some stage.Out) s t did p is = absurd (cc)
  ended_one k (Some (stage.Held h)) s t did p is = absurd (cc)
  ended_one k (Some (stage.Passed e)) s t did p is = let ends = did.1 in same_passed e p s.inner is ends.1

  pub ends_one : (u : Ticket) (s t : Delayed S B) → GivesUp c u s t → OfOne (delayed_promised c) (delayed_apart c) s u
  ends_one (Ready r) s t did = tt
  ends_one (Numbered k) s t did = λ n m l j away one two. one_stage (stage_of (slice_get s.tickets k)) s (ended_one k (slice_get s.tickets k) s t did) n m l j away one two

  -- Opens.

  -- the inner blob that was opened has the next number
  abbrev IsNext : B → Delayed S B → Delayed S B → Type 0
  IsNext b s t = t ≡ with_blob b (moved s t.inner)

  next_blobs : (b : B) (s t : Delayed S B) → IsNext b s t → t.blobs ≡ s.blobs ++ Some (record { inner = b; others = 0 }) ∷ []
  next_blobs b s t is = ap (λ (u : Delayed S B). u.blobs) is

  next_same : (n : ℕ) (b : B) (s t : Delayed S B) → IsNext b s t → n < length s.blobs → slice_get t.blobs n ≡ slice_get s.blobs n
  next_same n b s t is below = ap (λ (bs : List (Option (SharedBlob B))). slice_get bs n) (next_blobs b s t is) ∙ before_new s.blobs _ n below

  next_length : (b : B) (s t : Delayed S B) → IsNext b s t → length t.blobs ≡ length s.blobs + 1
  next_length b s t is = ap (λ (bs : List (Option (SharedBlob B))). length bs) (next_blobs b s t is) ∙ end_length s.blobs _

  next_here : (b : B) (s t : Delayed S B) → IsNext b s t → blob_at t.blobs (length s.blobs) ≡ Some b
  next_here b s t is = ap (λ (bs : List (Option (SharedBlob B))). blob_at bs (length s.blobs)) (next_blobs b s t is) ∙ ap inner_blob (at_end s.blobs (Some (record { inner = b; others = 0 })))

  -- whatever was answered, a number that was given out has what it had, and the inner store's open left that
  abbrev OpenLeaves : Delayed S B → Delayed S B → Type 0
  OpenLeaves s t =
      ((y : B) → c.opened s.inner y → StaysIn y s.inner t.inner × c.opened t.inner y)
      × ((a b : B) → c.opened s.inner a → c.opened s.inner b → c.apart s.inner a b → c.apart t.inner a b)
      × ((n : ℕ) → n < length s.blobs → (slice_get t.blobs n ≡ slice_get s.blobs n) × (n < length t.blobs))
      × (t.tickets ≡ s.tickets)

  number_stays : (n : ℕ) (s t : Delayed S B) → OpenLeaves s t → delayed_opened c s n → Stays (delayed_bytes c) (delayed_left c) (delayed_promised c) n s t × delayed_opened c t n
  number_stays n s t left are =
      let at = left.2 n are.0 in (
        stays_at n s t at.0 (λ y found. (left.0 y (are.1 y found)).0) (λ k f l found hopes. subst (λ (ks : List Stage). slice_get ks k ≡ Some f) (sym left.3) found),
        (at.1, λ y found. (left.0 y (are.1 y (ap inner_blob (sym at.0) ∙ found))).1),
      )

  numbers_apart : (n m : ℕ) (s t : Delayed S B) → OpenLeaves s t → delayed_opened c s n → delayed_opened c s m → Far n m s → Far n m t
  numbers_apart n m s t left one two away = (
    away.0,
    λ a b at_n at_m.
        let here : blob_at s.blobs n ≡ Some a = ap inner_blob (sym (left.2 n one.0).0) ∙ at_n in
        let there : blob_at s.blobs m ≡ Some b = ap inner_blob (sym (left.2 m two.0).0) ∙ at_m in
        left.1 a b (one.1 a here) (two.1 b there) (away.1 a b here there),
  )

  same_left : (s t : Delayed S B) → t ≡ s → OpenLeaves s t
  same_left s t is = rw is ((λ y are. ((refl, refl, λ k l hopes. hopes), are)), (λ a b one two near. near), (λ n below. (refl, below)), refl)

  module _ {A X : Type 0} (call : Result X Error → S → List Noted → Type 0) (inner : B → A → X) (number : A → ℕ) (token : X → B) where
    -- what the inner store keeps of its blobs by an open, whatever it answers
    abbrev CallOpens : Delayed S B → Type 0
    CallOpens s = (low : Result X Error) (new : S) (x : List Noted) → call low new x → OpensApart c.bytes c.left c.promised c.apart c.opened token s.inner low new

    opens_left : (r : Result A Error) (s t : Delayed S B) (x : List Noted) → CallOpens s → Opens call inner number s r t x → OpenLeaves s t
    opens_left (Ok a) s t x keeps did =
        let is : IsNext did.0 s t = did.3 in
        let left = keeps (Ok (inner did.0 a)) t.inner x did.1 in
        let long : length t.blobs ≡ length s.blobs + 1 = next_length did.0 s t is in
        (left.0, left.1, (λ n below. (next_same n did.0 s t is below, omega (arith, long, below))), ap (λ (u : Delayed S B). u.tickets) is)
    opens_left (Err e) s t x keeps (inl did) =
        let left = keeps (Err e) t.inner x did.0 in
        let long : length t.blobs ≡ length s.blobs = ap (λ (u : Delayed S B). length u.blobs) did.1 in
        (left.0, left.1, (λ n below. (ap (λ (u : Delayed S B). slice_get u.blobs n) did.1, omega (arith, long, below))), ap (λ (u : Delayed S B). u.tickets) did.1)
    opens_left (Err e) s t x keeps (inr did) = same_left s t did.1

    pub opens_leave : ((b : B) (a : A) → token (inner b a) ≡ b) → (r : Result A Error) (s t : Delayed S B) (x : List Noted) → CallOpens s → Opens call inner number s r t x
        → OpensApart (delayed_bytes c) (delayed_left c) (delayed_promised c) (delayed_apart c) (delayed_opened c) number s r t
    opens_leave same (Ok a) s t x keeps did =
        let all = opens_left (Ok a) s t x keeps did in
        let is : IsNext did.0 s t = did.3 in
        let at : number a ≡ length s.blobs = did.2 in
        let long : length t.blobs ≡ length s.blobs + 1 = next_length did.0 s t is in
        let left = keeps (Ok (inner did.0 a)) t.inner x did.1 in
        let made = left.2 in
        let given : (y : B) → blob_at t.blobs (number a) ≡ Some y → token (inner did.0 a) ≡ y = λ y found.
        let here : Some did.0 ≡ Some y = sym (next_here did.0 s t is) ∙ (ap (λ (i : ℕ). blob_at t.blobs i) (sym at) ∙ found) in
        let one : did.0 ≡ y = cc in
        same did.0 a ∙ one in (
          (λ n are. number_stays n s t all are),
          (λ n m one two away. numbers_apart n m s t all one two away),
          (
            (omega (arith, long, at), λ y found. subst (λ (z : B). c.opened t.inner z) (given y found) made.0),
            (λ n are.
                let below : n < length s.blobs = are.0 in (
                  (λ equal. let is_n : number a ≡ n = equal in omega (arith, at, is_n, below)),
                  λ b y at_a at_n.
                      let there : blob_at s.blobs n ≡ Some y = ap inner_blob (sym (next_same n did.0 s t is below)) ∙ at_n in
                      subst (λ (z : B). c.apart t.inner z y) (given b at_a) (made.1 y (are.1 y there)),
                )),
          ),
        )
    opens_leave same (Err e) s t x keeps did =
        let all = opens_left (Err e) s t x keeps did in
        ((λ n are. number_stays n s t all are), (λ n m one two away. numbers_apart n m s t all one two away), tt)
