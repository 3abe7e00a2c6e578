-- Each signal stays of its group until it's given up, one that `stopped` gives is of the shutdown's, and a copy of its original's.
use Rattle.rt_laws.proofs.Prelude.{◌≡◌, ◌⊎◌, inl, inr, ◌<◌, ◌≤◌, ◌+◌, ℕ, ℤ, List, [], ◌∷◌, ◌++◌, Option, Some, None, is_some, true, false, not, eqb, refl, sym, ◌∙◌, ap, arith, Contains, option_map_or, cases_Bool, eqb-true, Contains-append_right, UnknownToken, SignalRecord, StopRecord, is_alive, new_token, group_for, with_signal, with_clone, with_completion, signaled, signaler_closed, completes, completed, without_signal, signal_closed, signal_polled, completion_polled, stopped_first, stopped_after, stop_after, stopped_answer, waiting_as, signal_group, owners, SignalToken, find-push, find-owners, owners-unwaited, owners-without, owners-push, without-none, Call, Signaler, CloneSignal, Signal, SignalPoll, SignalClose, SignalerClose, CompletionPoll, CompletionClose, Stop, CallReply, Done, SignalAt, CompletionAt, StillPending, Entry, CallEntry, Begin, stopped_reply, State, begun, after, after_all, signals_called, stop_called, Answers, Unless, IsLawful, after_all-append}
use Rattle.std.specs.Option.{option_map}
use Rattle.rt_super.specs.Rows.{find, without, replaced}
use Rattle.rt_audit.specs.declared.call.Call.TheVariants.{Stopped}
use Rattle.rt_laws.proofs.Clock.{lawful-tail}
use Rattle.rt_laws.proofs.FirstStop.{by-value}
use Rattle.rt_laws.proofs.Flags.{find-other}
use Rattle.rt_laws.proofs.Handed.{none-next, given-more}
use Rattle.rt_laws.proofs.Tasks.{AreApart, apart-add, apart-removed, find-removed, has-removed, lacks-add, lacks-removed}

-- the group of each open signal
abbrev groups : SignalRecord → List (ℕ × ℕ)
groups r = owners r.signals

-- how an entry may change them

record Same (r q : SignalRecord) : Type 0 where
  pub groups : groups q ≡ groups r
  pub rises : r.count ≤ q.count

record Added (r q : SignalRecord) : Type 0 where
  pub group : ℕ
  pub groups : groups q ≡ groups r ++ (r.count, group) ∷ []
  pub within : group ≤ r.count
  pub next : q.count ≡ r.count + 1

record Closed (e : Entry) (r q : SignalRecord) : Type 0 where
  pub signal : ℕ
  pub by : Option ℕ
  pub call : e ≡ CallEntry by (SignalClose signal) Done
  pub groups : groups q ≡ without signal (groups r)
  pub next : q.count ≡ r.count

abbrev Change : Entry → SignalRecord → SignalRecord → Type 0
Change e r q = Same r q ⊎ Added r q ⊎ Closed e r q

-- the open signals and their groups have numbers below the next, and the shutdown's own number is no open signal's
record AreGrouped (r : SignalRecord) (shutdown : ℕ) : Type 0 where
  pub apart : AreApart (groups r)
  pub given : (k : ℕ) → is_some (find k (groups r)) ≡ true → k < r.count
  pub below : (k group : ℕ) → find k (groups r) ≡ Some group → group < r.count
  pub own : is_some (find shutdown (groups r)) ≡ false
  pub within : shutdown < r.count

none-of : {A : Type 0} (o : Option A) → is_some o ≡ false → o ≡ None
none-of None h = refl
none-of (Some x) h = absurd (cc)

some-of : {A : Type 0} (o : Option A) (x : A) → o ≡ Some x → is_some o ≡ true
some-of o x h = rw h refl

-- what the calls on signals do

same : (r : SignalRecord) → Same r r
same r = record { groups = refl; rises = omega arith }

added : (r : SignalRecord) (group : ℕ) → Added r (with_signal r group)
added r group = record {
  group = group_for group r.count;
  groups = owners-push r.count _ r.signals;
  within = grind arith;
  next = refl;
}

owners-waiting : (waits : Option ℕ) (signal : ℕ) (ts : List (ℕ × SignalToken)) → owners (replaced (waiting_as waits) signal ts) ≡ owners ts
owners-waiting waits signal [] = refl
owners-waiting waits signal (t ∷ ts) = grind (arith, owners-waiting waits signal ts)

given-same : (r : SignalRecord) (group : ℕ) (value : ℤ) → Same r (signaled r group value)
given-same r group value = elim (cases_Bool (is_alive r group)) [
  | inl e ↦ rw e (record { groups = owners-unwaited group r.signals; rises = omega arith })
  | inr e ↦ rw e (same r)
]

closing-same : (r : SignalRecord) (group : ℕ) → Same r (signaler_closed r group)
closing-same r group = elim (cases_Bool (is_alive r group)) [
  | inl e ↦ rw e (record { groups = owners-unwaited group r.signals; rises = omega arith })
  | inr e ↦ rw e (same r)
]

polled-same : (r : SignalRecord) (signal : ℕ) (waits : Option ℕ) → Same r (signal_polled r signal waits)
polled-same r signal waits = record { groups = grind (arith, owners-waiting waits signal r.signals); rises = grind arith }

met-same : (r : SignalRecord) (completion : ℕ) (waits : Option ℕ) → Same r (completion_polled r completion waits)
met-same r completion waits = record { groups = grind arith; rises = grind arith }

completed-same : (r : SignalRecord) (group : ℕ) → (groups (completed r group) ≡ groups r) × ((completed r group).count ≡ r.count)
completed-same r group = elim (cases_Bool (completes r group)) [
  | inl e ↦ rw e (refl, refl)
  | inr e ↦ rw e (refl, refl)
]

closed-so : (r : SignalRecord) (signal : ℕ) → (groups (signal_closed r signal) ≡ without signal (groups r)) × ((signal_closed r signal).count ≡ r.count)
closed-so r signal = at (find signal r.signals) refl
  where
    at : (o : Option SignalToken) → find signal r.signals ≡ o → (groups (option_map_or (λ t. completed (without_signal r signal) t.group) o r) ≡ without signal (groups r)) × ((option_map_or (λ t. completed (without_signal r signal) t.group) o r).count ≡ r.count)
    at None e = (sym (without-none signal (groups r) (find-owners signal r.signals ∙ rw e refl)), refl)
    at (Some t) e =
        let done = completed-same (without_signal r signal) t.group in
        (done.0 ∙ owners-without signal r.signals, done.1)

first-same : (r : SignalRecord) (group : ℕ) (value : ℤ) → is_some (find group (groups r)) ≡ false → Same r (stopped_first r group value)
first-same r group value none =
    let q = signaled (with_completion r group) group value in
    let given = given-same (with_completion r group) group value in
    let closed = closed-so q group in
    record {
      groups = closed.0 ∙ ap (λ os. without group os) given.groups ∙ without-none group (groups r) (none-of _ none);
      rises = (let rises = given.rises in omega (arith, closed.1));
    }

stop-same : (r : SignalRecord) (s : StopRecord) (value : ℤ) → is_some (find s.group (groups r)) ≡ false → Same r (stop_after r s value)
stop-same r s value none = elim (by-value s.value) [
  | inl e ↦ rw e (first-same r s.group value none)
  | inr e ↦ rw e.1 (record { groups = refl; rises = omega arith })
]

changes-clone : (e : Entry) (r : SignalRecord) (signal : ℕ) → Change e r (with_clone r signal)
changes-clone e r signal = at (find signal r.signals)
  where
    at : (o : Option SignalToken) → Change e r (option_map_or (λ t. with_signal r t.group) o r)
    at None = inl (same r)
    at (Some t) = inr (inl (added r t.group))

changes-stopped : (e : Entry) (r : SignalRecord) (s : StopRecord) → Change e r (stopped_after r s)
changes-stopped e r s = elim (by-value s.value) [
  | inl e ↦ rw e (inr (inl (added r s.group)))
  | inr e ↦ rw e.1 (inl (same r))
]

changes-called : (s : State) (by : Option ℕ) (call : Call) (reply : CallReply) → AreGrouped s.stood.signals s.stood.stop.group → Change (CallEntry by call reply) s.stood.signals (signals_called s.stood.signals s.stood.stop by call reply)
changes-called s by Signaler (SignalAt number) g = inr (inl (record { group = s.stood.signals.count; groups = owners-push s.stood.signals.count _ s.stood.signals.signals; within = omega arith; next = refl }))
changes-called s by (CloneSignal signal) (SignalAt number) g = changes-clone _ s.stood.signals signal
changes-called s by (Signal signaler value) Done g = inl (given-same s.stood.signals signaler value)
changes-called s by (SignalPoll signal) StillPending g = inl (polled-same s.stood.signals signal by)
changes-called s by (SignalClose signal) Done g =
    let closed = closed-so s.stood.signals signal in
    inr (inr (record { signal = signal; by = by; call = refl; groups = closed.0; next = closed.1 }))
changes-called s by (SignalerClose signaler) Done g = inl (closing-same s.stood.signals signaler)
changes-called s by (CompletionPoll completion) StillPending g = inl (met-same s.stood.signals completion by)
changes-called s by (CompletionClose completion) Done g = inl (record { groups = refl; rises = omega arith })
changes-called s by (Stop value) (CompletionAt number) g = inl (stop-same s.stood.signals s.stood.stop value g.own)
changes-called s by Stopped (SignalAt number) g = changes-stopped _ s.stood.signals s.stood.stop
changes-called s by _ _ g = inl (same s.stood.signals)

changes : (s : State) (e : Entry) → AreGrouped s.stood.signals s.stood.stop.group → Change e s.stood.signals (after s e).stood.signals
unfolding after
changes s (CallEntry by call reply) g = changes-called s by call reply g
changes s _ g = inl (same s.stood.signals)

-- the shutdown's group stays the same

group-called : (s : StopRecord) (call : Call) (reply : CallReply) → (stop_called s call reply).group ≡ s.group
group-called s (Stop value) (CompletionAt number) = elim (by-value s.value) [
  | inl e ↦ rw e refl
  | inr e ↦ rw e.1 refl
]
group-called s _ _ = refl

group-after : (s : State) (e : Entry) → (after s e).stood.stop.group ≡ s.stood.stop.group
unfolding after
group-after s (CallEntry by call reply) = group-called s.stood.stop call reply
group-after s _ = refl

group-all : (s : State) (x : List Entry) → (after_all s x).stood.stop.group ≡ s.stood.stop.group
group-all s [] = refl
group-all s (e ∷ x) = group-all (after s e) x ∙ group-after s e

pub group : (b : Begin) (x y : List Entry) → (after_all (begun b) (x ++ y)).stood.stop.group ≡ (after_all (begun b) x).stood.stop.group
group b x y = rw (after_all-append (begun b) x y) (group-all (after_all (begun b) x) y)

-- what a change keeps

module _ (e : Entry) (r q : SignalRecord) (shutdown : ℕ) where
  rises : Change e r q → r.count ≤ q.count
  rises (inl c) = c.rises
  rises (inr (inl c)) = omega (arith, c.next)
  rises (inr (inr c)) = omega (arith, c.next)

  -- a number that is given and has no signal has none later
  gone : (k : ℕ) → k < r.count → is_some (find k (groups r)) ≡ false → Change e r q → is_some (find k (groups q)) ≡ false
  gone k given none (inl c) = rw c.groups none
  gone k given none (inr (inl c)) = rw c.groups (lacks-add k r.count c.group (groups r) none (grind arith))
  gone k given none (inr (inr c)) = rw c.groups (lacks-removed k c.signal (groups r) none)

  added-below : (k group : ℕ) (c : Added r q) → find k (groups q) ≡ Some group → (find k (groups r) ≡ Some group) ⊎ (group ≡ c.group)
  added-below k group c h = let found = find-push r.count k c.group (groups r) in let there = rw c.groups at h in grind (arith, found, there)

  closed-before : (k group : ℕ) (c : Closed e r q) → AreApart (groups r) → find k (groups q) ≡ Some group → find k (groups r) ≡ Some group
  closed-before k group c apart h = elim (cases_Bool (eqb c.signal k)) [
    | inl is ↦
        let same : c.signal ≡ k = eqb-true c.signal k is in
        let none : is_some (find k (without k (groups r))) ≡ false = find-removed k (groups r) apart in
        let there : find k (without k (groups r)) ≡ Some group = rw (c.groups, same) at h in
        absurd (grind (arith, none, there))
    | inr is ↦ rw (c.groups, find-other k c.signal (groups r) is) at h
  ]

  stays : AreGrouped r shutdown → Change e r q → AreGrouped q shutdown
  stays g (inl c) = record {
    apart = rw c.groups g.apart;
    given = λ k h. (let l = g.given k (rw c.groups at h) in omega (arith, c.rises));
    below = λ k group h. (let l = g.below k group (rw c.groups at h) in omega (arith, c.rises));
    own = rw c.groups g.own;
    within = (let l = g.within in omega (arith, c.rises));
  }
  stays g (inr (inl c)) = record {
    apart = rw c.groups (apart-add r.count c.group (groups r) (none-next r.count (groups r) g.given) g.apart);
    given = λ k h. (let l = given-more r.count c.group (groups r) g.given k (rw c.groups at h) in omega (arith, c.next));
    below = λ k group h. elim (added-below k group c h) [
      | inl was ↦ (let l = g.below k group was in omega (arith, c.next))
      | inr is ↦ omega (arith, c.within, c.next)
    ];
    own = gone shutdown g.within g.own (inr (inl c));
    within = (let l = g.within in omega (arith, c.next));
  }
  stays g (inr (inr c)) = record {
    apart = rw c.groups (apart-removed c.signal (groups r) g.apart);
    given = λ k h. (let l = g.given k (has-removed k c.signal (groups r) (rw c.groups at h)) in omega (arith, c.next));
    below = λ k group h. (let l = g.below k group (closed-before k group c g.apart h) in omega (arith, c.next));
    own = gone shutdown g.within g.own (inr (inr c));
    within = (let l = g.within in omega (arith, c.next));
  }

  -- an open signal stays open and of its group, unless this is its close
  keeps : (k group : ℕ) → AreGrouped r shutdown → find k (groups r) ≡ Some group → Change e r q → (find k (groups q) ≡ Some group) ⊎ ((is_some (find k (groups q)) ≡ false) × ((by : Option ℕ) × (e ≡ CallEntry by (SignalClose k) Done)))
  keeps k group g there (inl c) = inl (rw c.groups there)
  keeps k group g there (inr (inl c)) = inl (let found = find-push r.count k c.group (groups r) in rw c.groups (grind (arith, found, there)))
  keeps k group g there (inr (inr c)) = elim (cases_Bool (eqb c.signal k)) [
    | inl is ↦
        let same : c.signal ≡ k = eqb-true c.signal k is in
        inr (rw (c.groups, same) (find-removed k (groups r) g.apart), (c.by, c.call ∙ ap (λ n. CallEntry c.by (SignalClose n) Done) same))
    | inr is ↦ inl (rw (c.groups, find-other k c.signal (groups r) is) there)
  ]

-- and so does a journal

abbrev IsGrouped : State → Type 0
IsGrouped s = AreGrouped s.stood.signals s.stood.stop.group

grouped-after : (s : State) (e : Entry) → IsGrouped s → IsGrouped (after s e)
grouped-after s e g = rw (group-after s e) (stays e s.stood.signals (after s e).stood.signals s.stood.stop.group g (changes s e g))

grouped-all : (s : State) (x : List Entry) → IsGrouped s → IsGrouped (after_all s x)
grouped-all s [] g = g
grouped-all s (e ∷ x) g = grouped-all (after s e) x (grouped-after s e g)

grouped : (b : Begin) (x : List Entry) → IsGrouped (after_all (begun b) x)
unfolding begun
grouped b x = grouped-all (begun b) x (record { apart = tt; given = λ k h. absurd (cc); below = λ k group h. absurd (cc); own = refl; within = omega arith })

-- the given numbers of a state are given behind it
gone-all : (k : ℕ) (s : State) (y : List Entry) → IsGrouped s → k < s.stood.signals.count → is_some (find k (groups s.stood.signals)) ≡ false → is_some (find k (groups (after_all s y).stood.signals)) ≡ false
gone-all k s [] g given none = none
gone-all k s (e ∷ y) g given none =
    let c = changes s e g in
    let more = rises e s.stood.signals (after s e).stood.signals s.stood.stop.group c in
    gone-all k (after s e) y (grouped-after s e g) (omega arith) (gone e s.stood.signals (after s e).stood.signals s.stood.stop.group k given none c)

abbrev IsClosed : ℕ → List Entry → Type 0
IsClosed k y = (by : Option ℕ) × Contains y (CallEntry by (SignalClose k) Done)

kept-all : (k group : ℕ) (s : State) (y : List Entry) → IsGrouped s → find k (groups s.stood.signals) ≡ Some group → (find k (groups (after_all s y).stood.signals) ≡ Some group) ⊎ ((find k (groups (after_all s y).stood.signals) ≡ None) × IsClosed k y)
kept-all k group s [] g there = inl there
kept-all k group s (e ∷ y) g there =
    let c = changes s e g in
    let next = grouped-after s e g in
    let given : k < s.stood.signals.count = g.given k (some-of _ group there) in
    let more = rises e s.stood.signals (after s e).stood.signals s.stood.stop.group c in
    elim (keeps e s.stood.signals (after s e).stood.signals s.stood.stop.group k group g there c) [
      | inl still ↦ elim (kept-all k group (after s e) y next still) [
        | inl now ↦ inl now
        | inr now ↦ inr (now.0, (now.1.0, Contains-append_right (e ∷ []) y (CallEntry now.1.0 (SignalClose k) Done) now.1.1))
      ]
      | inr closed ↦ inr (none-of _ (gone-all k (after s e) y next (omega arith) closed.0), (closed.1.0, (0, omega arith, closed.1.1)))
    ]

pub kept : (b : Begin) (x y : List Entry) (signal group : ℕ) → signal_group (after_all (begun b) x).stood.signals signal ≡ Some group → let now = signal_group (after_all (begun b) (x ++ y)).stood.signals signal in (now ≡ Some group) ⊎ ((now ≡ None) × IsClosed signal y)
kept b x y signal group there =
    let s = after_all (begun b) x in
    let owned = kept-all signal group s y (grouped b x) (find-owners signal s.stood.signals.signals ∙ there) in
    rw (after_all-append (begun b) x y, ← find-owners signal (after_all s y).stood.signals.signals) owned

-- a signal that is added is of its group

added-group : (r : SignalRecord) (shutdown group : ℕ) → AreGrouped r shutdown → group < r.count → signal_group (with_signal r group) r.count ≡ Some group
added-group r shutdown group g within =
    let none = none-next r.count (groups r) g.given in
    let found = find-push r.count r.count group (groups r) in
    let own : group_for group r.count ≡ group = grind arith in
    sym (find-owners r.count (with_signal r group).signals) ∙ rw (owners-push r.count (new_token (group_for group r.count)) r.signals, own) (grind (arith, found, none))

given-group : (r : SignalRecord) (s : StopRecord) (signal : ℕ) → AreGrouped r s.group → SignalAt signal ≡ stopped_reply (stopped_answer r s) → signal_group (stopped_after r s) signal ≡ Some s.group
given-group r s signal g told = elim (by-value s.value) [
  | inl e ↦
      let at = rw e at told in
      let same : signal ≡ r.count = cc in
      rw (e, same) (added-group r s.group s.group g g.within)
  | inr e ↦ (let at = rw e.1 at told in absurd (cc))
]

copied-group : (r : SignalRecord) (shutdown signal copy : ℕ) → AreGrouped r shutdown → Unless (not (is_some (find signal r.signals))) UnknownToken (λ reply. reply ≡ SignalAt r.count) (SignalAt copy) → signal_group (with_clone r signal) copy ≡ signal_group r signal
copied-group r shutdown signal copy g told = at (find signal r.signals) refl told
  where
    at : (o : Option SignalToken) → find signal r.signals ≡ o → Unless (not (is_some o)) UnknownToken (λ reply. reply ≡ SignalAt r.count) (SignalAt copy) → signal_group (option_map_or (λ t. with_signal r t.group) o r) copy ≡ option_map (λ t. t.group) o
    at None e told = absurd told
    at (Some t) e told =
        let same : copy ≡ r.count = cc in
        let within : t.group < r.count = g.below signal t.group (find-owners signal r.signals ∙ rw e refl) in
        rw same (added-group r shutdown t.group g within)

module _ (b : Begin) (x y : List Entry) (by : Option ℕ) where
  abbrev before : State
  before = after_all (begun b) x

  answered : (call : Call) (reply : CallReply) → IsLawful (begun b) (x ++ CallEntry by call reply ∷ y) → Answers before call reply
  answered call reply l = (lawful-tail (begun b) x (CallEntry by call reply ∷ y) l).0.1.1

  pub given : (signal : ℕ) → IsLawful (begun b) (x ++ CallEntry by Stopped (SignalAt signal) ∷ y) → signal_group (after before (CallEntry by Stopped (SignalAt signal))).stood.signals signal ≡ Some before.stood.stop.group
  unfolding after
  given signal l = given-group before.stood.signals before.stood.stop signal (grouped b x) (answered Stopped (SignalAt signal) l)

  pub copied : (signal copy : ℕ) → IsLawful (begun b) (x ++ CallEntry by (CloneSignal signal) (SignalAt copy) ∷ y) → signal_group (after before (CallEntry by (CloneSignal signal) (SignalAt copy))).stood.signals copy ≡ signal_group before.stood.signals signal
  unfolding after
  copied signal copy l = copied-group before.stood.signals before.stood.stop.group signal copy (grouped b x) (answered (CloneSignal signal) (SignalAt copy) l)
