-- The end of a store that holds syncs back: its lists are taken apart from their ends.
use Rattle.rt_buffer.proofs.Prelude.{◌≡◌, ◌∙◌, ◌⊎◌, ℕ, ◌+◌, ◌≤◌, ap, arith, Ok, Err, inl, inr, List, [], ◌∷◌, ◌++◌, Option, Some, None, Bool, true, Result, refl, sym, subst, add-mul, mul-add, Error, NoMemory, WriteOptions, Poll, Counts, Notes, Noted, HasRisen, Chunked, IsGivenUp, IsSync, IsWrite, Ghosts, SharedBlob, Hold, Stage, Out, AfterSync, ClosesAll, ClosesLast, CountsAnswer, Delayed, GivesUpAll, GivesUpLast, SyncsAt, SyncsReleased, Writes, WritesAt, WritesThen, moved, gate_of, CountsDone, PollsTicket, is_numbered, Done, Now, Gated, Ticket, false, append-nil, GivesUpStage, LetsGo, kept, given, without_ticket, stage_of, length, rules}
use Rattle.std.specs.Prelude.{◌*◌}
use Rattle.rt_base.specs.declared.poll.Poll.TheVariants as ready
use Rattle.rt_buffer.proofs.Mocks.{counts_more, counts_up}
use Rattle.rt_buffer.proofs.Noting.{adds_both}
use Rattle.rt_buffer.specs.declared.stage.Stage.TheVariants.{Held, Passed}
use Rattle.rt_buffer.specs.Delayed.{Settles, plain}
use Rattle.rt_buffer.specs.declared.stage.Passed.{Passed as Tied}
use Rattle.rt_store.specs.declared.ticket.Ticket.TheVariants as ticket

pub closes_snoc : {S B : Type 0} (c : Ghosts S B) (bs : List (Option (SharedBlob B))) (b : Option (SharedBlob B)) (old mid new : S)
    → ClosesLast c b old mid → ClosesAll c bs mid new → ClosesAll c (bs ++ b ∷ []) old new
closes_snoc {S = S} c [] b old mid new h k = (old, refl, subst (λ (s : S). ClosesLast c b old s) (sym k) h)
closes_snoc c (x ∷ xs) b old mid new h k = (k.0, closes_snoc c xs b old mid k.0 h k.1, k.2)

pub gives_up_snoc : {S B : Type 0} (c : Ghosts S B) (ks : List Stage) (k : Stage) (old mid new : S)
    → GivesUpLast c k old mid → GivesUpAll c ks mid new → GivesUpAll c (ks ++ k ∷ []) old new
gives_up_snoc {S = S} c [] k old mid new h rest = (old, refl, subst (λ (s : S). GivesUpLast c k old s) (sym rest) h)
gives_up_snoc c (x ∷ xs) k old mid new h rest = (rest.0, gives_up_snoc c xs k old mid rest.0 h rest.1, rest.2)

pub gives_up_none : {S B : Type 0} (c : Ghosts S B) (k : Stage) (s : S) → ((h : Hold) × (k ≡ Held h)) ⊎ (k ≡ Out) → GivesUpLast c k s s
gives_up_none c (Held h) s _ = refl
gives_up_none c (Passed p) s (inl (h, e)) = cc
gives_up_none c (Passed p) s (inr e) = cc
gives_up_none c Out s _ = refl

-- a sync of the inner store, and what comes behind it
pub synced_then : {S B : Type 0} (c : Ghosts S B) (n task : ℕ) (h : Hold) (b : B) (opened : Option B) (s : Delayed S B) (p : Poll (Result Unit Error)) (t : Delayed S B)
    (low : Result Done Error) (mid : S) (before between behind : Option (List Noted))
    → opened ≡ Some b → Notes before (λ y. IsSync c s.inner b low mid y) between → Notes between (λ z. AfterSync c n task h low (moved s mid) p t z) behind
    → Notes before (λ x. SyncsReleased c n task h opened s p t x) behind
synced_then {B = B} c n task h b opened s p t low mid before between behind e first after =
    let x = first.0 ++ after.0 in
    let all : SyncsReleased c n task h (Some b) s p t x = (low, mid, first.0, after.0, first.2, after.2, refl) in
    (x, adds_both before between behind first.0 after.0 first.1 after.1, subst (λ (o : Option B). SyncsReleased c n task h o s p t x) (sym e) all)

-- a sync of the inner store that is answered at once
pub synced_alone : {S B : Type 0} (c : Ghosts S B) (n task : ℕ) (h : Hold) (b : B) (opened : Option B) (s : Delayed S B) (p : Poll (Result Unit Error)) (t : Delayed S B)
    (low : Result Done Error) (mid : S) (before between : Option (List Noted))
    → opened ≡ Some b → Notes before (λ y. IsSync c s.inner b low mid y) between → AfterSync c n task h low (moved s mid) p t []
    → Notes before (λ x. SyncsReleased c n task h opened s p t x) between
synced_alone {B = B} c n task h b opened s p t low mid before between e first after =
    let x = first.0 in
    let all : SyncsReleased c n task h (Some b) s p t x = (low, mid, x, [], first.2, after, sym (append-nil x)) in
    (x, first.1, subst (λ (o : Option B). SyncsReleased c n task h o s p t x) (sym e) all)

-- a write that is passed on
pub written_on : {S B : Type 0} (c : Ghosts S B) (n : ℕ) (b : B) (opened : Option B) (is_held : Bool) (offset : ℕ) (bufs : Chunked) (options : WriteOptions) (s : Delayed S B)
    (r : Result Done Error) (t : Delayed S B) (low : Result Done Error) (before between : Option (List Noted))
    → opened ≡ Some b → is_held ≡ false → Notes before (λ y. IsWrite c s.inner b offset bufs options low t.inner y) between
    → r ≡ given (length s.tickets) low → t ≡ record s { inner = t.inner; tickets = kept s.tickets low } → Notes before (λ x. Writes c n opened is_held offset bufs options s r t x) between
written_on {B = B} c n b opened is_held offset bufs options s r t low before between e plainly first is left =
    let x = first.0 in
    let all : WritesAt c (IsWrite c s.inner b offset bufs options) (IsWrite c s.inner b offset bufs (plain options)) n b false s r t x = (low, first.2, is, left) in
    let there : Writes c n (Some b) false offset bufs options s r t x = inl all in
    let held_there : Writes c n (Some b) is_held offset bufs options s r t x = subst (λ (y : Bool). Writes c n (Some b) y offset bufs options s r t x) (sym plainly) there in
    (x, first.1, subst (λ (o : Option B). Writes c n o is_held offset bufs options s r t x) (sym e) held_there)

-- a ticket of the inner store is given up
pub passed_up : {S B : Type 0} (c : Ghosts S B) (n : ℕ) (o : Option Stage) (k : Tied) (s t : Delayed S B) (mid : S)
    → stage_of o ≡ Passed k → IsGivenUp c s.inner (ticket.Numbered k.number) mid → LetsGo c k.blob (without_ticket n (moved s mid)) t → GivesUpStage c n o s t
passed_up c n None k s t mid is up go = search rules
passed_up c n (Some x) k s t mid is up go =
    let there : GivesUpStage c n (Some (Passed k)) s t = (mid, up, go) in
    subst (λ (y : Stage). GivesUpStage c n (Some y) s t) (sym is) there

-- a write that isn't durable, and what comes behind it
pub written_then : {S B : Type 0} (c : Ghosts S B) (n : ℕ) (b : B) (opened : Option B) (is_held : Bool) (offset : ℕ) (bufs : Chunked) (options : WriteOptions) (s : Delayed S B)
    (r : Result Done Error) (t : Delayed S B) (low : Result Done Error) (mid : S) (before between behind : Option (List Noted))
    → opened ≡ Some b → is_held ≡ true → Notes before (λ y. IsWrite c s.inner b offset bufs (plain options) low mid y) between
    → Notes between (λ z. WritesThen c n b low (moved s mid) r t z) behind → Notes before (λ x. Writes c n opened is_held offset bufs options s r t x) behind
written_then {B = B} c n b opened is_held offset bufs options s r t low mid before between behind e held first after =
    let x = first.0 ++ after.0 in
    let all : WritesAt c (IsWrite c s.inner b offset bufs options) (IsWrite c s.inner b offset bufs (plain options)) n b true s r t x =
    (low, mid, first.0, after.0, first.2, after.2, refl) in
    let there : Writes c n (Some b) true offset bufs options s r t x = inl all in
    let held_there : Writes c n (Some b) is_held offset bufs options s r t x = subst (λ (y : Bool). Writes c n (Some b) y offset bufs options s r t x) (sym held) there in
    (x, adds_both before between behind first.0 after.0 first.1 after.1, subst (λ (o : Option B). Writes c n o is_held offset bufs options s r t x) (sym e) held_there)

-- an answer's count, before a count that doesn't fall
counts_ahead : {A : Type 0} (old mid new : ℕ) (r : Result A Error) → Counts old mid r → mid ≤ new → Counts old new r
counts_ahead old mid new (Ok a) h up = omega (arith, up, h)
counts_ahead old mid new (Err NoMemory) h up = omega (arith, up, h)
counts_ahead old mid new (Err e) h up = (omega (arith, up, h.0), λ below. omega (arith, up, h.1 below))

-- the answer of an inner ticket, beside a count of its own that stayed
pub counts_inner : (old mid new own same : ℕ) (r : Result Unit Error) → Counts old mid r → mid ≤ new → same ≡ own → CountsAnswer (old + own) (new + same) (ready.Ready r)
counts_inner old mid new own same r h up stays =
    let c : Counts (old + own) (new + own) r = counts_more old new own r (counts_ahead old mid new r h up) in
    rw stays (counts_up (old + own) (new + own) r c, c)

risen_behind : (old mid new : ℕ) → old ≤ mid → mid ≤ new → HasRisen mid new → HasRisen old new
risen_behind old mid new up on risen below = grind (arith, risen)

-- an answer's count, behind a count that didn't fall
counts_after : {A : Type 0} (old mid new : ℕ) (r : Result A Error) → old ≤ mid → Counts mid new r → Counts old new r
counts_after old mid new (Ok a) up h = omega (arith, up, h)
counts_after old mid new (Err NoMemory) up h = omega (arith, up, h)
counts_after old mid new (Err e) up h = (omega (arith, up, h.0), risen_behind old mid new up h.0 h.1)

pub counts_done_behind : (old mid new : ℕ) (r : Result Done Error) → old ≤ mid → CountsDone mid new r → CountsDone old new r
counts_done_behind old mid new (Ok Now) up h = omega (arith, up, h)
counts_done_behind old mid new (Ok (Gated (ticket.Ready held))) up h = counts_after old mid new held up h
counts_done_behind old mid new (Ok (Gated (ticket.Numbered n))) up h = omega (arith, up, h)
counts_done_behind old mid new (Err e) up h = let r : Result Done Error = Err e in counts_after old mid new r up h

-- a write whose ticket is given up, and the sync behind it
pub gated_then : {S B : Type 0} (c : Ghosts S B) (n : ℕ) (b : B) (ticket : Ticket) (s : Delayed S B) (given_up : S) (r : Result Done Error) (t : Delayed S B) (between behind : Option (List Noted))
    → IsGivenUp c s.inner ticket given_up → Notes between (λ z. SyncsAt c n b (gate_of s.pending) (moved s given_up) r t z) behind → Notes between (λ z. WritesThen c n b (Ok (Gated ticket)) s r t z) behind
gated_then c n b ticket s given_up r t between behind gives after = (after.0, after.1, (given_up, gives, after.2))

-- a ticket with a number becomes ready with what was answered
pub settled_ticket : (old : Ticket) (q p : Poll (Result Unit Error)) (new : Ticket) → is_numbered old ≡ true → Settles old q p new → PollsTicket old p new
settled_ticket (ticket.Ready held) q p new is h = absurd (cc)
settled_ticket (ticket.Numbered n) ready.Pending p new is h = subst (λ (a : Poll (Result Unit Error)). PollsTicket (ticket.Numbered n) a new) (sym h.0) h.1
settled_ticket (ticket.Numbered n) (ready.Ready (Ok u)) p new is h = subst (λ (a : Poll (Result Unit Error)). PollsTicket (ticket.Numbered n) a new) (sym h.0) (Ok u, h.1, refl)
settled_ticket (ticket.Numbered n) (ready.Ready (Err e)) p new is (inl same, at) = subst (λ (a : Poll (Result Unit Error)). PollsTicket (ticket.Numbered n) a new) (sym same) (Err e, at, inl refl)
settled_ticket (ticket.Numbered n) (ready.Ready (Err e)) p new is (inr lacks, at) = subst (λ (a : Poll (Result Unit Error)). PollsTicket (ticket.Numbered n) a new) (sym lacks) (Err e, at, inr refl)

-- the room of twice as many calls
pub twice_room : (m c t p k s : ℕ) → t ≡ c * 2 → m * t + p + k ≤ s → (m + m) * c + p + k ≤ s
twice_room m c t p k s is h =
    let twice : t ≡ c + c = omega (arith, is) in
    let e : (m + m) * c ≡ m * t = add-mul m m c ∙ sym (mul-add m c c) ∙ ap (λ (x : ℕ). m * x) (sym twice) in
    rw e h
