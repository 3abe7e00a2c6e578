-- A store whose started syncs a test holds back, over an inner store.
use Rattle.std.specs.Prelude.{◌≡◌, ◌⊎◌, ℕ, ◌+◌, ◌-◌, ◌^◌, ◌≤◌, ◌==◌, Bool, true, false, if◌then◌else◌, List, [], ◌∷◌, ◌++◌, length, Option, Some, None, Result, Ok, Err, slice_get, slice_set, nat_lt}
use Rattle.rt_base.specs.declared.error.Error.{Error}
use Rattle.rt_base.specs.declared.error.Error.TheVariants.{NoMemory, UnknownToken}
use Rattle.rt_base.specs.declared.poll.Poll.{Poll}
use Rattle.rt_base.specs.declared.poll.Poll.TheVariants as poll
use Rattle.rt_base.specs.declared.options.WriteOptions.{WriteOptions}
use Rattle.rt_base.specs.Counted.{Counts}
use Rattle.rt_base.specs.Noted.{Noted}
use Rattle.rt_base.specs.Options.{without_write_options}
use Rattle.rt_bufs.specs.Chunked.{Chunked}
use Rattle.rt_buffer.specs.Calls.{IsClose, IsGivenUp, IsPoll, IsSync, IsWrite}
use Rattle.rt_store.specs.declared.storage.Storage.{Ghosts}
use Rattle.rt_buffer.specs.declared.shared_blob.SharedBlob.{SharedBlob}
use Rattle.rt_buffer.specs.declared.stage.Hold.{Hold}
use Rattle.rt_buffer.specs.declared.stage.Passed.{Passed}
use Rattle.rt_buffer.specs.declared.stage.Stage.{Stage}
use Rattle.rt_buffer.specs.declared.stage.Stage.TheVariants as stage
use Rattle.rt_buffer.specs.Mocks.{one_more}
use Rattle.rt_buffer.specs.Pending.{Pending, called, completed, gate_of, hold_answer, polled, start_hold, started}
use Rattle.rt_store.specs.Answered.{IsCopy, PollsTicket}
use Rattle.rt_store.specs.declared.ticket.Done.{Done}
use Rattle.rt_store.specs.declared.ticket.Done.TheVariants.{Now, Gated}
use Rattle.rt_store.specs.declared.ticket.Ticket.{Ticket}
use Rattle.rt_store.specs.declared.ticket.Ticket.TheVariants.{Ready, Numbered}

-- `blobs` are the inner blobs by the numbers of their tokens, `tickets` what became of each numbered ticket
pub record Delayed (S B : Type 0) : Type 0 where
  pub inner : S
  pub pending : Pending
  pub blobs : List (Option (SharedBlob B))
  pub tickets : List Stage
  pub refusals : ℕ

abbrev pub delayed : {S B : Type 0} → S → Pending → List (Option (SharedBlob B)) → List Stage → ℕ → Delayed S B
delayed inner pending blobs tickets refusals = record { inner = inner; pending = pending; blobs = blobs; tickets = tickets; refusals = refusals }

-- only the inner store is another one
abbrev pub moved : {S B : Type 0} → Delayed S B → S → Delayed S B
moved s inner = record s { inner = inner }

-- one more refusal of its own
abbrev pub refused : {S B : Type 0} → Delayed S B → Delayed S B
refused s = record s { refusals = one_more s.refusals }

-- The inner blobs.

abbrev pub inner_blob : {B : Type 0} → Option (Option (SharedBlob B)) → Option B
inner_blob None = None
inner_blob (Some None) = None
inner_blob (Some (Some b)) = Some b.inner

-- the inner blob of a token that is open
abbrev pub blob_at : {B : Type 0} → List (Option (SharedBlob B)) → ℕ → Option B
blob_at blobs n = inner_blob (slice_get blobs n)

-- a blob that only its token holds
abbrev pub with_blob : {S B : Type 0} → B → Delayed S B → Delayed S B
with_blob b s = record s { blobs = s.blobs ++ Some (record { inner = b; others = 0 }) ∷ [] }

-- one more can hold it
abbrev pub has_place_in : {B : Type 0} → Option (Option (SharedBlob B)) → Bool
has_place_in None = true
has_place_in (Some None) = true
has_place_in (Some (Some b)) = nat_lt b.others (2 ^ 64 - 1)

abbrev pub has_place : {B : Type 0} → List (Option (SharedBlob B)) → ℕ → Bool
has_place blobs n = has_place_in (slice_get blobs n)

-- where a gate is there
abbrev pub gate_has_place : {B : Type 0} → List (Option (SharedBlob B)) → ℕ → Option ℕ → Bool
gate_has_place blobs n None = true
gate_has_place blobs n (Some gate) = has_place blobs n

-- one more ticket holds it
abbrev pub held_more : {B : Type 0} → List (Option (SharedBlob B)) → ℕ → Option (Option (SharedBlob B)) → List (Option (SharedBlob B))
held_more blobs n None = blobs
held_more blobs n (Some None) = blobs
held_more blobs n (Some (Some b)) = slice_set blobs n (Some (record b { others = b.others + 1 }))

abbrev pub with_holder : {B : Type 0} → List (Option (SharedBlob B)) → ℕ → List (Option (SharedBlob B))
with_holder blobs n = held_more blobs n (slice_get blobs n)

-- one holds it no more, and the last one closes it
abbrev pub is_last : {B : Type 0} → SharedBlob B → Bool
is_last b = b.others == 0

abbrev pub closed_by : {B : Type 0} → Option (Option (SharedBlob B)) → Option B
closed_by None = None
closed_by (Some None) = None
closed_by (Some (Some b)) = if is_last b then Some b.inner else None

abbrev pub held_less : {B : Type 0} → List (Option (SharedBlob B)) → ℕ → Option (Option (SharedBlob B)) → List (Option (SharedBlob B))
held_less blobs n None = blobs
held_less blobs n (Some None) = blobs
held_less blobs n (Some (Some b)) = slice_set blobs n (if is_last b then None else Some (record b { others = b.others - 1 }))

abbrev pub without_holder : {B : Type 0} → List (Option (SharedBlob B)) → ℕ → List (Option (SharedBlob B))
without_holder blobs n = held_less blobs n (slice_get blobs n)

abbrev pub Closes : {S B : Type 0} → Ghosts S B → Option B → S → S → Type 0
Closes c None old new = new ≡ old
Closes c (Some b) old new = IsClose c old b new

abbrev pub LetsGo : {S B : Type 0} → Ghosts S B → Option ℕ → Delayed S B → Delayed S B → Type 0
LetsGo c None s t = t ≡ s
LetsGo c (Some n) s t = Closes c (closed_by (slice_get s.blobs n)) s.inner t.inner × (t ≡ record s { inner = t.inner; blobs = without_holder s.blobs n })

-- Calls that are passed on.

-- there is no memory, and nothing has changed
abbrev pub Lacks : {S B : Type 0} → Error → Delayed S B → Delayed S B → List Noted → Type 0
Lacks e s t x = (e ≡ NoMemory) × (t ≡ s) × (x ≡ [])

-- a call of the inner store that opens a blob: the token has the next number
abbrev pub Opens : {S B A X : Type 0} → (Result X Error → S → List Noted → Type 0) → (B → A → X) → (A → ℕ) → Delayed S B → Result A Error → Delayed S B → List Noted → Type 0
Opens {B = B} call inner number s (Ok a) t x =
    (b : B) × call (Ok (inner b a)) t.inner x × (number a ≡ length s.blobs) × (t ≡ with_blob b (moved s t.inner))
Opens call inner number s (Err e) t x = (call (Err e) t.inner x × (t ≡ moved s t.inner)) ⊎ Lacks e s t x

-- a call on a token is the inner store's on its blob; a token of no open blob is refused
abbrev pub OnBlob : {S B A : Type 0} → (B → Result A Error → S → List Noted → Type 0) → Option B → Delayed S B → Result A Error → Delayed S B → List Noted → Type 0
OnBlob call None s r t x = (r ≡ Err UnknownToken) × (t ≡ refused s) × (x ≡ [])
OnBlob call (Some b) s r t x = call b r t.inner x × (t ≡ moved s t.inner)

-- Durability calls.

-- a ticket of the inner store is kept under a number
abbrev pub given : ℕ → Result Done Error → Result Done Error
given n (Ok (Gated (Numbered m))) = Ok (Gated (Numbered n))
given n r = r

abbrev pub kept : List Stage → Result Done Error → List Stage
kept tickets (Ok (Gated (Numbered m))) = tickets ++ stage.Passed (record { number = m; blob = None; counts = false }) ∷ []
kept tickets r = tickets

abbrev pub PassesOn : {S B : Type 0} → (Result Done Error → S → List Noted → Type 0) → Delayed S B → Result Done Error → Delayed S B → List Noted → Type 0
PassesOn call s r t x = (low : Result Done Error) × call low t.inner x × (r ≡ given (length s.tickets) low) × (t ≡ record s { inner = t.inner; tickets = kept s.tickets low })

-- a ticket that holds the blob
abbrev pub with_ticket : {S B : Type 0} → Hold → Delayed S B → Delayed S B
with_ticket h s = record s { blobs = with_holder s.blobs h.blob; tickets = s.tickets ++ stage.Held h ∷ [] }

-- a sync takes the gate, and else is passed on
abbrev pub SyncsAt : {S B : Type 0} → Ghosts S B → ℕ → B → Option ℕ → Delayed S B → Result Done Error → Delayed S B → List Noted → Type 0
SyncsAt c n b None s r t x = PassesOn (IsSync c s.inner b) (record s { pending = called s.pending }) r t x
SyncsAt c n b (Some gate) s r t x =
    (r ≡ Ok (Gated (Numbered (length s.tickets)))) × (t ≡ with_ticket (record { blob = n; hold = Some gate; counts = false }) (record s { pending = called s.pending })) × (x ≡ [])

abbrev pub SyncsOr : {S B : Type 0} → Ghosts S B → ℕ → B → Delayed S B → Result Done Error → Delayed S B → List Noted → Type 0
SyncsOr c n b s r t x = SyncsAt c n b (gate_of s.pending) s r t x ⊎ ((r ≡ Err NoMemory) × (t ≡ s) × (x ≡ []))

abbrev pub Syncs : {S B : Type 0} → Ghosts S B → ℕ → Option B → Delayed S B → Result Done Error → Delayed S B → List Noted → Type 0
Syncs c n None s r t x = (r ≡ Err UnknownToken) × (t ≡ refused s) × (x ≡ [])
Syncs c n (Some b) s r t x = SyncsOr c n b s r t x

-- a started sync: its ticket is numbered, and holds the blob
abbrev pub Starts : {S B : Type 0} → ℕ → Option B → Delayed S B → Result Ticket Error → Delayed S B → List Noted → Type 0
Starts n None s r t x = (r ≡ Err UnknownToken) × (t ≡ refused s) × (x ≡ [])
Starts n (Some b) s (Ok ticket) t x =
    (ticket ≡ Numbered (length s.tickets)) × (t ≡ with_ticket (record { blob = n; hold = start_hold s.pending; counts = true }) (record s { pending = started s.pending })) × (x ≡ [])
Starts n (Some b) s (Err e) t x = Lacks e s t x

-- a write that isn't durable, or comes while that isn't armed, is passed on; else it is one that isn't durable, and then a sync,
-- whose room was taken before
abbrev pub WritesThen : {S B : Type 0} → Ghosts S B → ℕ → B → Result Done Error → Delayed S B → Result Done Error → Delayed S B → List Noted → Type 0
WritesThen c n b (Err e) s r t x = (r ≡ Err e) × (t ≡ s) × (x ≡ [])
WritesThen c n b (Ok Now) s r t x = SyncsAt c n b (gate_of s.pending) s r t x
WritesThen {S = S} c n b (Ok (Gated ticket)) s r t x = (given_up : S) × IsGivenUp c s.inner ticket given_up × SyncsAt c n b (gate_of s.pending) (moved s given_up) r t x

abbrev pub WritesAt : {S B : Type 0} → Ghosts S B → (Result Done Error → S → List Noted → Type 0) → (Result Done Error → S → List Noted → Type 0) → ℕ → B → Bool → Delayed S B → Result Done Error → Delayed S B → List Noted → Type 0
WritesAt c durably plainly n b false s r t x = PassesOn durably s r t x
WritesAt {S = S} c durably plainly n b true s r t x =
    (low : Result Done Error) × (mid : S) × (y : List Noted) × (z : List Noted) × plainly low mid y × WritesThen c n b low (moved s mid) r t z × (x ≡ y ++ z)

-- the options without that a write be durable
abbrev pub plain : WriteOptions → WriteOptions
plain options = without_write_options options (record { sync = true; dont_cache = false })

abbrev pub Writes : {S B : Type 0} → Ghosts S B → ℕ → Option B → Bool → ℕ → Chunked → WriteOptions → Delayed S B → Result Done Error → Delayed S B → List Noted → Type 0
Writes c n None is_held offset bufs options s r t x = (r ≡ Err UnknownToken) × (t ≡ refused s) × (x ≡ [])
Writes c n (Some b) is_held offset bufs options s r t x =
    WritesAt c (IsWrite c s.inner b offset bufs options) (IsWrite c s.inner b offset bufs (plain options)) n b is_held s r t x ⊎ ((r ≡ Err NoMemory) × (t ≡ s) × (x ≡ []))

-- Polls.

-- an answer's error comes only where the count rose
abbrev pub CountsAnswer : ℕ → ℕ → Poll (Result Unit Error) → Type 0
CountsAnswer old new (poll.Ready r) = (old ≤ new) × Counts old new r
CountsAnswer old new poll.Pending = old ≤ new

-- one that isn't there is out
abbrev pub stage_of : Option Stage → Stage
stage_of None = stage.Out
stage_of (Some k) = k

-- a ticket is out: a further poll is refused, and a further end of it does nothing
abbrev pub without_ticket : {S B : Type 0} → ℕ → Delayed S B → Delayed S B
without_ticket n s = record s { tickets = slice_set s.tickets n stage.Out }

abbrev pub counted_done : Bool → Result Unit Error → Pending → Pending
counted_done true (Ok u) p = completed p
counted_done true (Err e) p = p
counted_done false r p = p

-- a ticket is answered: it is out, and its blob is closed where nothing holds it any more
abbrev pub Finishes : {S B : Type 0} → Ghosts S B → ℕ → Option ℕ → Bool → Result Unit Error → Delayed S B → Delayed S B → Type 0
Finishes c n blob counts r s t = LetsGo c blob (without_ticket n (record s { pending = counted_done counts r s.pending })) t

-- the answer of an inner ticket is taken out of that, which is none of the inner store's any more
abbrev pub AnswersInner : {S B : Type 0} → Ghosts S B → ℕ → Option ℕ → Bool → Result Unit Error → Delayed S B → Poll (Result Unit Error) → Delayed S B → Type 0
AnswersInner c n blob counts r s p t = (p ≡ poll.Ready r) × Finishes c n blob counts r s t

abbrev pub AfterInner : {S B : Type 0} → Ghosts S B → ℕ → Passed → Ticket → Delayed S B → Poll (Result Unit Error) → Delayed S B → Type 0
AfterInner c n k (Numbered m) s p t = (p ≡ poll.Pending) × (t ≡ s)
AfterInner c n k (Ready r) s p t = AnswersInner c n k.blob k.counts r s p t

-- the inner ticket is polled: the answer is pending while it has its number, and what it holds once it is ready
abbrev pub PollsInner : {S B : Type 0} → Ghosts S B → ℕ → ℕ → Passed → Delayed S B → Poll (Result Unit Error) → Delayed S B → List Noted → Type 0
PollsInner {S = S} c n task k s p t x =
    (low : Poll (Result Unit Error)) × (mid : S) × (u : Ticket) × IsPoll c s.inner (Numbered k.number) task low mid u x × PollsTicket (Numbered k.number) low u × AfterInner c n k u (moved s mid) p t

-- a sync that goes on is one of the inner store
abbrev pub AfterSync : {S B : Type 0} → Ghosts S B → ℕ → ℕ → Hold → Result Done Error → Delayed S B → Poll (Result Unit Error) → Delayed S B → List Noted → Type 0
AfterSync c n task h (Err e) s p t x = (p ≡ poll.Ready (Err e)) × Finishes c n (Some h.blob) h.counts (Err e) s t × (x ≡ [])
AfterSync c n task h (Ok Now) s p t x = (p ≡ poll.Ready (Ok tt)) × Finishes c n (Some h.blob) h.counts (Ok tt) s t × (x ≡ [])
AfterSync c n task h (Ok (Gated (Ready r))) s p t x = AnswersInner c n (Some h.blob) h.counts r s p t × (x ≡ [])
AfterSync c n task h (Ok (Gated (Numbered m))) s p t x =
    let k : Passed = record { number = m; blob = Some h.blob; counts = h.counts } in
    PollsInner c n task k (record s { tickets = slice_set s.tickets n (stage.Passed k) }) p t x

abbrev pub SyncsReleased : {S B : Type 0} → Ghosts S B → ℕ → ℕ → Hold → Option B → Delayed S B → Poll (Result Unit Error) → Delayed S B → List Noted → Type 0
SyncsReleased c n task h None s p t x = (p ≡ poll.Ready (Err UnknownToken)) × (t ≡ refused (without_ticket n s)) × (x ≡ [])
SyncsReleased {S = S} c n task h (Some b) s p t x =
    (low : Result Done Error) × (mid : S) × (y : List Noted) × (z : List Noted) × IsSync c s.inner b low mid y × AfterSync c n task h low (moved s mid) p t z × (x ≡ y ++ z)

-- what it was released with: an error is answered without a call of the inner store
abbrev pub AfterHold : {S B : Type 0} → Ghosts S B → ℕ → ℕ → Hold → Poll (Result Unit Error) → Delayed S B → Poll (Result Unit Error) → Delayed S B → List Noted → Type 0
AfterHold c n task h poll.Pending s p t x = (p ≡ poll.Pending) × (t ≡ s) × (x ≡ [])
AfterHold c n task h (poll.Ready (Err e)) s p t x = (p ≡ poll.Ready (Err e)) × Finishes c n (Some h.blob) h.counts (Err e) (refused s) t × (x ≡ [])
AfterHold c n task h (poll.Ready (Ok u)) s p t x = SyncsReleased c n task h (blob_at s.blobs h.blob) s p t x

abbrev pub PollsHeld : {S B : Type 0} → Ghosts S B → ℕ → ℕ → Hold → Delayed S B → Poll (Result Unit Error) → Delayed S B → List Noted → Type 0
PollsHeld c n task h s p t x = AfterHold c n task h (hold_answer s.pending h.hold) (record s { pending = polled h.hold task s.pending }) p t x

-- a number of no ticket, or of one that is out, is refused
abbrev pub PollsStage : {S B : Type 0} → Ghosts S B → ℕ → ℕ → Option Stage → Delayed S B → Poll (Result Unit Error) → Delayed S B → List Noted → Type 0
PollsStage c n task None s p t x = (p ≡ poll.Ready (Err UnknownToken)) × (t ≡ refused s) × (x ≡ [])
PollsStage c n task (Some stage.Out) s p t x = (p ≡ poll.Ready (Err UnknownToken)) × (t ≡ refused s) × (x ≡ [])
PollsStage c n task (Some (stage.Held h)) s p t x = PollsHeld c n task h s p t x
PollsStage c n task (Some (stage.Passed k)) s p t x = PollsInner c n task k s p t x

-- the ticket becomes ready with the answer, of which the poll returns a copy where there is memory for it
abbrev pub Settles : Ticket → Poll (Result Unit Error) → Poll (Result Unit Error) → Ticket → Type 0
Settles old poll.Pending p new = (p ≡ poll.Pending) × (new ≡ old)
Settles old (poll.Ready r) p new = IsCopy r p × (new ≡ Ready r)

-- one that is ready answers a copy, with no call of the inner store
abbrev pub Polls : {S B : Type 0} → Ghosts S B → ℕ → Ticket → Delayed S B → Poll (Result Unit Error) → Delayed S B → Ticket → List Noted → Type 0
Polls c task (Ready held) s p t u x = PollsTicket (Ready held) p u × (t ≡ s) × (x ≡ [])
Polls c task (Numbered n) s p t u x =
    (q : Poll (Result Unit Error)) × PollsStage c n task (slice_get s.tickets n) s q t x × Settles (Numbered n) q p u

-- a ticket that is given up is out and holds its blob no more, and one of the inner store is given up there. One that is ready is
-- out already
abbrev pub GivesUpStage : {S B : Type 0} → Ghosts S B → ℕ → Option Stage → Delayed S B → Delayed S B → Type 0
GivesUpStage c n None s t = t ≡ s
GivesUpStage c n (Some stage.Out) s t = t ≡ s
GivesUpStage c n (Some (stage.Held h)) s t = LetsGo c (Some h.blob) (without_ticket n s) t
GivesUpStage {S = S} c n (Some (stage.Passed k)) s t =
    (given_up : S) × IsGivenUp c s.inner (Numbered k.number) given_up × LetsGo c k.blob (without_ticket n (moved s given_up)) t

abbrev pub GivesUp : {S B : Type 0} → Ghosts S B → Ticket → Delayed S B → Delayed S B → Type 0
GivesUp c (Ready held) s t = t ≡ s
GivesUp c (Numbered n) s t = GivesUpStage c n (slice_get s.tickets n) s t

-- the end of the store: what is left of the inner store's tickets is given up, and what is left of its blobs is closed, the last
-- first
abbrev pub GivesUpLast : {S B : Type 0} → Ghosts S B → Stage → S → S → Type 0
GivesUpLast c (stage.Held h) old new = new ≡ old
GivesUpLast c (stage.Passed k) old new = IsGivenUp c old (Numbered k.number) new
GivesUpLast c stage.Out old new = new ≡ old

abbrev pub GivesUpAll : {S B : Type 0} → Ghosts S B → List Stage → S → S → Type 0
GivesUpAll c [] old new = new ≡ old
GivesUpAll {S = S} c (k ∷ ks) old new = (mid : S) × GivesUpAll c ks old mid × GivesUpLast c k mid new

abbrev pub ClosesLast : {S B : Type 0} → Ghosts S B → Option (SharedBlob B) → S → S → Type 0
ClosesLast c None old new = new ≡ old
ClosesLast c (Some b) old new = IsClose c old b.inner new

abbrev pub ClosesAll : {S B : Type 0} → Ghosts S B → List (Option (SharedBlob B)) → S → S → Type 0
ClosesAll c [] old new = new ≡ old
ClosesAll {S = S} c (b ∷ bs) old new = (mid : S) × ClosesAll c bs old mid × ClosesLast c b mid new
