-- What is sent into a slot is sent at most once, and handed out at most once.
use Rattle.rt_laws.proofs.Prelude.{◌≡◌, ◌≢◌, ◌<◌, ◌+◌, ◌⊎◌, inl, inr, ℕ, List, [], ◌∷◌, ◌++◌, Option, Some, None, is_some, Bool, true, false, if◌then◌else◌, eqb, refl, arith, All, AllByRecursion, option_map_or, All-from_recursion, cases_Bool, eqb-true, Call, Slots, Slot, SlotSend, SlotClose, SlotPoll, SlotGiveUp, AbortWait, CallReply, Done, SlotAt, StillPending, IsReady, Entry, CallEntry, Begin, Outcome, Open, There, Exited, IsClosed, TaskResult, find, without, replaced, new_result, with_outcome, Slotted, with_slot, without_slot, settled, aborted, State, begun, after, after_all, slots_called, May, Answers, ReceiveAnswers, SlotAnswers, IsLawful, SpendsSender}
use Rattle.rt_model.specs.Slots.{with_sent}
use Rattle.rt_laws.proofs.Clock.{lawful-front, lawful-tail}
use Rattle.rt_laws.proofs.Flags.{find-other}
use Rattle.rt_laws.proofs.Tasks.{AreApart, lacks-add, lacks-removed, apart-add, apart-replaced, apart-removed, find-removed, has-add, has-replaced, has-removed}

-- what is there or may still come
abbrev may_come : Outcome → Bool
may_come (Open waits) = true
may_come There = true
may_come _ = false

abbrev is_live : Option TaskResult → Bool
is_live r = option_map_or (λ r. may_come r.outcome) r false

live-some : (r : Option TaskResult) → is_live r ≡ true → is_some r ≡ true
live-some (Some r) h = refl
live-some None h = absurd (cc)

-- slots have numbers of their own, all below the next
record AreNumbered (ss : Slotted) : Type 0 where
  pub apart : AreApart ss.results
  pub given : (k : ℕ) → is_some (find k ss.results) ≡ true → k < ss.count
  pub senders : AreApart ss.senders
  pub senders_given : (k : ℕ) → is_some (find k ss.senders) ≡ true → k < ss.count

pub none-next : {A : Type 0} (count : ℕ) (xs : List (ℕ × A)) → ((k : ℕ) → is_some (find k xs) ≡ true → k < count) → is_some (find count xs) ≡ false
none-next count xs given = elim (cases_Bool (is_some (find count xs))) [
  | inl e ↦ (let l = given count e in absurd (omega arith))
  | inr e ↦ e
]

pub given-more : {A : Type 0} (count : ℕ) (a : A) (xs : List (ℕ × A)) → ((k : ℕ) → is_some (find k xs) ≡ true → k < count) → (k : ℕ) → is_some (find k (xs ++ (count, a) ∷ [])) ≡ true → k < count + 1
given-more count a xs given k h = elim (has-add k count a xs h) [
  | inl e ↦ omega arith
  | inr was ↦ (let l = given k was in omega arith)
]

numbered-more : (ss : Slotted) → AreNumbered ss → AreNumbered (with_slot ss.count ss)
numbered-more ss n = record {
  apart = apart-add ss.count new_result ss.results (none-next ss.count ss.results n.given) n.apart;
  given = given-more ss.count new_result ss.results n.given;
  senders = apart-add ss.count tt ss.senders (none-next ss.count ss.senders n.senders_given) n.senders;
  senders_given = given-more ss.count tt ss.senders n.senders_given;
}

numbered-replaced : (ss : Slotted) (f : TaskResult → TaskResult) (k : ℕ) → AreNumbered ss → AreNumbered (record ss { results = replaced f k ss.results })
numbered-replaced ss f k n = record {
  apart = apart-replaced k f ss.results n.apart;
  given = λ other h. n.given other (has-replaced other k f ss.results h);
  senders = n.senders;
  senders_given = n.senders_given;
}

numbered-sent : (ss : Slotted) (o : Outcome) (k : ℕ) → AreNumbered ss → AreNumbered (with_sent o k ss)
numbered-sent ss o k n =
    let replaces = numbered-replaced ss (settled o) k n in
    record {
      apart = replaces.apart;
      given = replaces.given;
      senders = apart-removed k ss.senders n.senders;
      senders_given = λ other h. n.senders_given other (has-removed other k ss.senders h);
    }

numbered-spent : (ss : Slotted) (k : ℕ) → AreNumbered ss → AreNumbered (without_slot k ss)
numbered-spent ss k n = record {
  apart = apart-removed k ss.results n.apart;
  given = λ other h. n.given other (has-removed other k ss.results h);
  senders = n.senders;
  senders_given = n.senders_given;
}

slot-at : {k n : ℕ} → SlotAt k ≡ SlotAt n → k ≡ n
slot-at e = cc

numbered-called : (s : State) (by : Option ℕ) (call : Call) (reply : CallReply) → Answers s call reply → AreNumbered s.stood.slots → AreNumbered (slots_called s.stood.slots by call reply)
numbered-called s by (Slots Slot) (SlotAt slot) m n = rw (slot-at m) (numbered-more s.stood.slots n)
numbered-called s by (Slots (SlotSend slot)) Done m n = numbered-sent s.stood.slots There slot n
numbered-called s by (Slots (SlotClose slot)) Done m n = numbered-sent s.stood.slots IsClosed slot n
numbered-called s by (Slots (SlotPoll slot)) StillPending m n = numbered-replaced s.stood.slots (λ r. record r { outcome = Open by }) slot n
numbered-called s by (Slots (SlotPoll slot)) IsReady m n = numbered-replaced s.stood.slots (λ r. record r { outcome = IsClosed }) slot n
numbered-called s by (Slots (SlotGiveUp slot)) Done m n = numbered-spent s.stood.slots slot n
numbered-called s by (Slots (AbortWait slot)) Done m n = numbered-replaced s.stood.slots aborted slot n
numbered-called s by _ _ m n = n

numbered-after : (s : State) (e : Entry) → May s e → AreNumbered s.stood.slots → AreNumbered (after s e).stood.slots
unfolding after
numbered-after s (CallEntry by call reply) m n = numbered-called s by call reply m.1.1 n
numbered-after s _ m n = n

numbered-all : (s : State) (x : List Entry) → IsLawful s x → AreNumbered s.stood.slots → AreNumbered (after_all s x).stood.slots
numbered-all s [] l n = n
numbered-all s (e ∷ x) l n = numbered-all (after s e) x l.1 (numbered-after s e l.0 n)

run-numbered : (b : Begin) (x : List Entry) → IsLawful (begun b) x → AreNumbered (after_all (begun b) x).stood.slots
unfolding begun
run-numbered b x l = numbered-all (begun b) x l (record { apart = tt; given = λ k h. absurd (cc); senders = tt; senders_given = λ k h. absurd (cc) })

-- a change that brings nothing back brings nothing back in its place

live-either : (b : Bool) (p q r t : Option TaskResult) → (is_live p ≡ true → is_live q ≡ true) → (is_live r ≡ true → is_live t ≡ true) → is_live (if b then p else r) ≡ true → is_live (if b then q else t) ≡ true
live-either true p q r t first second h = first h
live-either false p q r t first second h = second h

live-replaced : (f : TaskResult → TaskResult) → ((r : TaskResult) → may_come (f r).outcome ≡ true → may_come r.outcome ≡ true) → (k other : ℕ) (rs : List (ℕ × TaskResult)) → is_live (find k (replaced f other rs)) ≡ true → is_live (find k rs) ≡ true
live-replaced f keeps k other [] h = h
live-replaced f keeps k other (x ∷ rs) h = elim (cases_Bool (eqb x.0 other)) [
  | inl e ↦ (
      let same = eqb-true x.0 other e in
      rw same (live-either (eqb other k) (Some (f x.1)) (Some x.1) (find k rs) (find k rs) (keeps x.1) (λ h. h) (rw e at h)))
  | inr e ↦ live-either (eqb x.0 k) (Some x.1) (Some x.1) (find k (replaced f other rs)) (find k rs) (λ h. h) (live-replaced f keeps k other rs) (rw e at h)
]

settled-keeps : (o : Outcome) (r : TaskResult) → may_come (settled o r).outcome ≡ true → may_come r.outcome ≡ true
settled-keeps o r h = by r.outcome refl
  where
    by : (was : Outcome) → r.outcome ≡ was → may_come r.outcome ≡ true
    by (Open waits) e = rw e refl
    by There e = rw e refl
    by Exited e = (let z : false ≡ true = rw e at h in absurd (cc))
    by IsClosed e = (let z : false ≡ true = rw e at h in absurd (cc))

find-replaced : (f : TaskResult → TaskResult) (k other : ℕ) (rs : List (ℕ × TaskResult)) → eqb other k ≡ false → find k (replaced f other rs) ≡ find k rs
find-replaced f k other [] e = refl
find-replaced f k other (x ∷ rs) e = grind (arith, find-replaced f k other rs)

live-add : (k other : ℕ) (rs : List (ℕ × TaskResult)) → eqb other k ≡ false → is_live (find k (rs ++ (other, new_result) ∷ [])) ≡ true → is_live (find k rs) ≡ true
live-add k other [] e h = (let z : is_live None ≡ true = rw e at h in z)
live-add k other (x ∷ rs) e h = grind (arith, live-add k other rs)

closed-now : (k : ℕ) (rs : List (ℕ × TaskResult)) → is_live (find k (with_outcome IsClosed k rs)) ≡ false
closed-now k [] = refl
closed-now k (x ∷ rs) = grind (arith, closed-now k rs)

-- a poll that is pending or ready is one of a slot that is open or has what was sent
polled-live : (r : Option TaskResult) (reply : CallReply) → (reply ≡ StillPending) ⊎ (reply ≡ IsReady) → ReceiveAnswers r reply → is_live r ≡ true
polled-live None reply (inl e) m = absurd (rw e at m)
polled-live None reply (inr e) m = absurd (rw e at m)
polled-live (Some r) reply is m = by r.aborted refl m
  where
    lively : (o : Outcome) → SlotAnswers o reply → may_come o ≡ true
    lively (Open waits) m = refl
    lively There m = refl
    lively Exited m = elim is [ inl e ↦ absurd (rw e at m) | inr e ↦ absurd (rw e at m) ]
    lively IsClosed m = elim is [ inl e ↦ absurd (rw e at m) | inr e ↦ absurd (rw e at m) ]

    by : (b : Bool) → r.aborted ≡ b → ReceiveAnswers (Some r) reply → may_come r.outcome ≡ true
    by true e m = (let z = rw e at m in elim is [ inl f ↦ absurd (rw f at z) | inr f ↦ absurd (rw f at z) ])
    by false e m = lively r.outcome (rw e at m)

module _ (slot : ℕ) where
  -- it was given, and nothing is there or may still come
  abbrev IsSpent : Slotted → Type 0
  IsSpent ss = (is_live (find slot ss.results) ≡ true → ⊥) × (slot < ss.count)

  spent-called : (s : State) (by : Option ℕ) (call : Call) (reply : CallReply) → Answers s call reply → AreNumbered s.stood.slots → IsSpent s.stood.slots → IsSpent (slots_called s.stood.slots by call reply)
  spent-called s by (Slots Slot) (SlotAt other) m n k =
      let l = k.1 in
      let number : other ≡ s.stood.slots.count = slot-at m in
      let apart : eqb other slot ≡ false = rw number (grind arith) in
      (λ h. k.0 (live-add slot other s.stood.slots.results apart h), omega (arith, number))
  spent-called s by (Slots (SlotSend other)) Done m n k = (λ h. k.0 (live-replaced (settled There) (settled-keeps There) slot other s.stood.slots.results h), k.1)
  spent-called s by (Slots (SlotClose other)) Done m n k = (λ h. k.0 (live-replaced (settled IsClosed) (settled-keeps IsClosed) slot other s.stood.slots.results h), k.1)
  spent-called s by (Slots (SlotPoll other)) StillPending m n k = (λ h. k.0 (pending (cases_Bool (eqb other slot)) h), k.1)
    where
      pending : (eqb other slot ≡ true) ⊎ (eqb other slot ≡ false) → is_live (find slot (with_outcome (Open by) other s.stood.slots.results)) ≡ true → is_live (find slot s.stood.slots.results) ≡ true
      pending (inl e) h = (let same = eqb-true other slot e in polled-live (find slot s.stood.slots.results) StillPending (inl refl) (rw same at m))
      pending (inr e) h = (let z : is_live (find slot s.stood.slots.results) ≡ true = rw (find-replaced (λ r. record r { outcome = Open by }) slot other s.stood.slots.results e) at h in z)
  spent-called s by (Slots (SlotPoll other)) IsReady m n k = (λ h. k.0 (live-replaced (λ r. record r { outcome = IsClosed }) (λ r f. absurd (cc)) slot other s.stood.slots.results h), k.1)
  spent-called s by (Slots (SlotGiveUp other)) Done m n k = (λ h. k.0 (removed (cases_Bool (eqb other slot)) h), k.1)
    where
      removed : (eqb other slot ≡ true) ⊎ (eqb other slot ≡ false) → is_live (find slot (without other s.stood.slots.results)) ≡ true → is_live (find slot s.stood.slots.results) ≡ true
      removed (inl e) h =
          let same = eqb-true other slot e in
          let gone : is_some (find slot (without slot s.stood.slots.results)) ≡ false = find-removed slot s.stood.slots.results n.apart in
          let there = live-some (find slot (without slot s.stood.slots.results)) (rw same at h) in
          absurd (cc)
      removed (inr e) h = (let z : is_live (find slot s.stood.slots.results) ≡ true = rw (find-other slot other s.stood.slots.results e) at h in z)
  spent-called s by (Slots (AbortWait other)) Done m n k = (λ h. k.0 (live-replaced aborted (λ r f. absurd (cc)) slot other s.stood.slots.results h), k.1)
  spent-called s by _ _ m n k = k

  spent-after : (s : State) (e : Entry) → May s e → AreNumbered s.stood.slots → IsSpent s.stood.slots → IsSpent (after s e).stood.slots
  unfolding after
  spent-after s (CallEntry by call reply) m n k = spent-called s by call reply m.1.1 n k
  spent-after s _ m n k = k

  abbrev HandsNone : Entry → Type 0
  HandsNone e = (by : Option ℕ) → e ≢ CallEntry by (Slots (SlotPoll slot)) IsReady

  hands-none : (s : State) (e : Entry) → May s e → IsSpent s.stood.slots → HandsNone e
  hands-none s (CallEntry by (Slots (SlotPoll other)) IsReady) m k who e =
      let same : other ≡ slot = cc in
      k.0 (polled-live (find slot s.stood.slots.results) IsReady (inr refl) (rw same at m.1.1))
  hands-none s _ m k who e = cc

  -- it was given, and its sender is spent
  abbrev IsSent : Slotted → Type 0
  IsSent ss = (is_some (find slot ss.senders) ≡ false) × (slot < ss.count)

  sent-called : (s : State) (by : Option ℕ) (call : Call) (reply : CallReply) → Answers s call reply → IsSent s.stood.slots → IsSent (slots_called s.stood.slots by call reply)
  sent-called s by (Slots Slot) (SlotAt other) m k =
      let l = k.1 in
      let number : other ≡ s.stood.slots.count = slot-at m in
      let apart : eqb other slot ≡ false = rw number (grind arith) in
      (lacks-add slot other tt s.stood.slots.senders k.0 apart, omega (arith, number))
  sent-called s by (Slots (SlotSend other)) Done m k = (lacks-removed slot other s.stood.slots.senders k.0, k.1)
  sent-called s by (Slots (SlotClose other)) Done m k = (lacks-removed slot other s.stood.slots.senders k.0, k.1)
  sent-called s by (Slots (SlotPoll other)) StillPending m k = k
  sent-called s by (Slots (SlotPoll other)) IsReady m k = k
  sent-called s by (Slots (SlotGiveUp other)) Done m k = k
  sent-called s by (Slots (AbortWait other)) Done m k = k
  sent-called s by _ _ m k = k

  sent-after : (s : State) (e : Entry) → May s e → IsSent s.stood.slots → IsSent (after s e).stood.slots
  unfolding after
  sent-after s (CallEntry by call reply) m k = sent-called s by call reply m.1.1 k
  sent-after s _ m k = k

  sender-held : (s : State) (e : Entry) → May s e → SpendsSender slot e → is_some (find slot s.stood.slots.senders) ≡ true
  sender-held s (CallEntry by (Slots (SlotSend other)) Done) m h = rw h at m.1.1.1
  sender-held s (CallEntry by (Slots (SlotClose other)) Done) m h = rw h at m.1.1.1
  sender-held s _ m h = absurd h

  sent-all : (s : State) (y : List Entry) → IsLawful s y → IsSent s.stood.slots → AllByRecursion (λ (e : Entry). SpendsSender slot e → ⊥) y
  sent-all s [] l k = tt
  sent-all s (e ∷ y) l k =
      ((λ h. let held = sender-held s e l.0 h in let lacks = k.0 in cc), sent-all (after s e) y l.1 (sent-after s e l.0 k))

  now-sent : (s : State) (e : Entry) → AreNumbered s.stood.slots → SpendsSender slot e → is_some (find slot (after s e).stood.slots.senders) ≡ false
  unfolding after
  now-sent s (CallEntry by (Slots (SlotSend other)) Done) n h = rw h (find-removed slot s.stood.slots.senders n.senders)
  now-sent s (CallEntry by (Slots (SlotClose other)) Done) n h = rw h (find-removed slot s.stood.slots.senders n.senders)
  now-sent s _ n h = absurd h

  count-kept : (s : State) (e : Entry) → SpendsSender slot e → (after s e).stood.slots.count ≡ s.stood.slots.count
  unfolding after
  count-kept s (CallEntry by (Slots (SlotSend other)) Done) h = refl
  count-kept s (CallEntry by (Slots (SlotClose other)) Done) h = refl
  count-kept s _ h = absurd h

  spent-all : (s : State) (y : List Entry) → IsLawful s y → AreNumbered s.stood.slots → IsSpent s.stood.slots → AllByRecursion HandsNone y
  spent-all s [] l n k = tt
  spent-all s (e ∷ y) l n k = (hands-none s e l.0 k, spent-all (after s e) y l.1 (numbered-after s e l.0 n) (spent-after s e l.0 n k))

pub slot_handed_once : (b : Begin) (x y : List Entry) (by : Option ℕ) (slot : ℕ) → IsLawful (begun b) (x ++ CallEntry by (Slots (SlotPoll slot)) IsReady ∷ y) → All (λ (e : Entry). (other : Option ℕ) → e ≢ CallEntry other (Slots (SlotPoll slot)) IsReady) y
unfolding after
slot_handed_once b x y by slot l =
    let s = after_all (begun b) x in
    let e = CallEntry by (Slots (SlotPoll slot)) IsReady in
    let r = lawful-tail (begun b) x (e ∷ y) l in
    let n = run-numbered b x (lawful-front (begun b) x (e ∷ y) l) in
    let live = polled-live (find slot s.stood.slots.results) IsReady (inr refl) r.0.1.1 in
    let none : is_live (find slot (with_outcome IsClosed slot s.stood.slots.results)) ≡ false = closed-now slot s.stood.slots.results in
    let given = n.given slot (live-some (find slot s.stood.slots.results) live) in
    All-from_recursion (HandsNone slot) y (spent-all slot (after s e) y r.1 (numbered-after s e r.0 n) ((λ h. cc), given))

pub slot_sent_once : (b : Begin) (x y : List Entry) (e : Entry) (slot : ℕ) → IsLawful (begun b) (x ++ e ∷ y) → SpendsSender slot e → All (λ (f : Entry). SpendsSender slot f → ⊥) y
slot_sent_once b x y e slot l h =
    let s = after_all (begun b) x in
    let r = lawful-tail (begun b) x (e ∷ y) l in
    let n = run-numbered b x (lawful-front (begun b) x (e ∷ y) l) in
    let given : slot < (after s e).stood.slots.count = rw (count-kept slot s e h) (n.senders_given slot (sender-held slot s e r.0 h)) in
    All-from_recursion (λ (f : Entry). SpendsSender slot f → ⊥) y (sent-all slot (after s e) y r.1 (now-sent slot s e n h, given))
